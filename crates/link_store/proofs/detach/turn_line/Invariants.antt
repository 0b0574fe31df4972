-- `turn_line` goes up from row to row.
use Rattle.std.specs.Prelude.{◌≡◌, ◌-◌}
use Rattle.link_store.specs.Detach.{turned_line}
use Rattle.link_store.proofs.detach.turn_line.Given as goal

abbrev pub invariant-loop : goal.invariant-loop
invariant-loop l = turned_line l.n l.initial.fields l.x l.v ≡ turned_line (l.n - l.counter) l.fields l.z l.under
