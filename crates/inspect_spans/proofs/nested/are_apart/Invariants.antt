-- `are_apart`: the places below k pass.
use Rattle.std.specs.Prelude.{◌+◌}
use Rattle.inspect_laws.specs.Apart.{is_apart_next}
use Rattle.inspect_laws.proofs.All.{Passed}
use Rattle.inspect_tree.specs.Columns.{span_layer}
use Rattle.inspect_order.specs.Places.{held}
use Rattle.inspect_spans.proofs.nested.are_apart.Given as goal

abbrev pub invariant-loop-k : goal.invariant-loop-k
invariant-loop-k l = Passed (λ k. is_apart_next (span_layer l.fields l.numbers 0) (held l.s k) (held l.s (k + 1))) l.k
