-- `part_rows` passes over the rows in use.
use Rattle.std.specs.Prelude.{◌≡◌, ◌-◌}
use Rattle.renumber.specs.NumberWalk.{written}
use Rattle.link_store.specs.Detach.{parted_rows}
use Rattle.link_store.proofs.detach.part_rows.Given as goal

abbrev pub invariant-loop-row : goal.invariant-loop-row
invariant-loop-row l = parted_rows l.tree l.n 0 (written l.initial.fields l.initial.numbers l.initial.ancestors) ≡ parted_rows l.tree (l.n - l.row) l.row (written l.fields l.numbers l.ancestors)
