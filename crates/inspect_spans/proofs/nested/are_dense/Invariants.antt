-- `are_dense`: the rows below u pass, and their children stand before place k.
use Rattle.std.specs.Prelude.{◌≤◌}
use Rattle.inspect_laws.proofs.All.{Passed}
use Rattle.inspect_laws.specs.Dense.{Passing}
use Rattle.inspect_laws.specs.Nested.{is_dense}
use Rattle.inspect_tree.specs.Columns.{span_layer, uppers}
use Rattle.inspect_order.specs.Places.{held}
use Rattle.inspect_spans.proofs.nested.are_dense.Given as goal

abbrev pub invariant-loop-u : goal.invariant-loop-u
invariant-loop-u l = (l.k ≤ l.n) × (Passing (uppers l.fields) (held l.s) l.n l.u l.k × Passed (is_dense (span_layer l.fields l.numbers l.n)) l.u)
