-- `mark_line`: what is marked so far, and what is met from z on, is what was marked before and what is met from the root.
use Rattle.std.specs.Prelude.{◌||◌, ◌-◌, eqb, get_or}
use Rattle.inspect_tree.specs.Columns.{parents, depths}
use Rattle.inspect_lines.specs.Marks.{Marking, met}
use Rattle.inspect_lines.proofs.lines.mark_line.Given as goal

abbrev pub invariant-loop : goal.invariant-loop
invariant-loop l = Marking (parents l.fields) (λ x. eqb (get_or l.initial.s x 0) 1 || met (parents l.fields) (depths l.fields) l.root x) (l.end - l.counter) l.z l.s
