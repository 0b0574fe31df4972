-- `store` joins the leaf, marks it and stores its level.
use Rattle.std.specs.Prelude.{◌≡◌}
use Rattle.std.specs.Int.{w32}
use mir.Val.{to_z, of_z}
use Rattle.table.specs.Lent.{parts_in_mut}
use Rattle.growth_store.specs.StoreLaws.{store_parts}
use Rattle.std.proofs.Common.{rules}
use Rattle.growth_store.proofs.store.store.Goals as goal

pub returns-clause-stored : goal.returns-clause-stored
returns-clause-stored c = let a = c.args in
    let back : to_z w32 (of_z w32 a.g.marks.level) ≡ a.g.marks.level = search rules in
    store_parts (parts_in_mut a.parts.now) a.count a.g _ _ _ _ _ _
    c.store-rows.ensures
    c.mark.ensures
    (rw back at c.put_level.ensures)
