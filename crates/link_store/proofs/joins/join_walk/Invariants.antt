-- `join_walk` turns as its definition does.
use Rattle.std.specs.Prelude.{◌≡◌, ◌-◌, ◌*◌}
use Rattle.table.specs.Lent.{parts_in_mut, SameLengths, SameLoans}
use Rattle.link_store.specs.Sort.{cell_at}
use Rattle.link_store.specs.Walk.{walking, joining, join_walk}
use Rattle.link_store.proofs.joins.join_walk.Given as goal

abbrev pub invariant-loop : goal.invariant-loop
invariant-loop l = SameLengths l.initial.parts l.parts × (SameLoans l.initial.parts l.parts ×
    (join_walk (2 * l.n) (cell_at l.heads) (cell_at l.links) l.n l.x l.door (walking (parts_in_mut l.initial.parts) (joining (cell_at l.heads 0) 0 0))
    ≡ join_walk (2 * l.n - l.counter) (cell_at l.heads) (cell_at l.links) l.n l.x l.door (walking (parts_in_mut l.parts) l.j)))
