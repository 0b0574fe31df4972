-- `join_row`: no level, or the stores that are planned.
use Rattle.std.specs.Prelude.{◌≡◌}
use Rattle.std.specs.Int.{w32}
use mir.Val.{to_z, of_z}
use Rattle.std.proofs.Common.{rules}
use Rattle.table.specs.Lent.{parts_in}
use Rattle.link_store.specs.WalkLaws.{join_out, join_at}
use Rattle.link_store.proofs.joins.join_row.Goals as goal

pub returns-in_default-clause-stored : goal.returns-in_default-clause-stored
returns-in_default-clause-stored c = let a = c.args in
    rw (← c.read-lent.ensures) (join_out (parts_in c.read-lent.result) a.n a.x a.door a.z c.field-v.ensures c.level_under.ensures c.in_default.is)

pub returns-clause-stored : goal.returns-clause-stored
returns-clause-stored c = let a = c.args in
    let kept : to_z w32 (of_z w32 c.in-Some.level) ≡ c.in-Some.level = search rules in
    rw (← c.read-lent.ensures) (join_at (parts_in c.read-lent.result) a.n a.x a.door a.z c.field-v.ensures c.level_under.ensures c.in-Some.is c.number_for-label.ensures c.number_for-face.ensures (rw kept at c.plan_row-planned.ensures)
    (rw (← c.read-lent.ensures) at c.store_planned.ensures.stored))
