-- `are_apart`: the places below k pass.
use Rattle.std.specs.Prelude.{◌+◌, ◌-◌}
use Rattle.std.proofs.Common.{arith}
use Rattle.inspect_laws.specs.Apart.{is_apart_next}
use Rattle.inspect_laws.proofs.All.{passed_end, stopped_by}
use Rattle.inspect_tree.specs.Columns.{span_layer}
use Rattle.inspect_order.specs.Places.{held}
use Rattle.inspect_spans.specs.Small.{arranged_in}
use Rattle.inspect_spans.proofs.nested.are_apart.Goals as goal

pub is_apart-requires : goal.is_apart-requires
is_apart-requires c = let pre = c.requires in rw c.cell.ensures (pre.0.each _ (arranged_in pre.1 _ (omega arith)))

pub returns-then-not-is_apart : goal.returns-then-not-is_apart
returns-then-not-is_apart c = stopped_by (λ k. is_apart_next (span_layer c.args.fields.now c.args.numbers.now 0) (held c.args.s.now k) (held c.args.s.now (k + 1))) (c.args.n - 1) c.loop-k.k (omega arith) (rw (c.cell.ensures, c.cell-in-loop-k.ensures) at c.is_apart.ensures) c.if-not-is_apart.true-raw

pub returns : goal.returns
returns c = passed_end (c.args.n - 1) c.loop-k.invariant (omega arith)
