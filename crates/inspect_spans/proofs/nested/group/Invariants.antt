-- `group`: the places from k up to next are the group's.
use Rattle.inspect_order.specs.Places.{held}
use Rattle.inspect_spans.specs.Grouped.{Grouping}
use Rattle.inspect_spans.proofs.nested.group.Given as goal

abbrev pub invariant-loop-next : goal.invariant-loop-next
invariant-loop-next l = Grouping l.fields (held l.s) l.n l.u l.k l.need l.next l.left
