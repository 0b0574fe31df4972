-- `are_dense`: the rows below u pass, and their children stand before place k.
use mathlib.Core.Path.{sym, ◌∙◌}
use Prim.Native.Nat.{◌+◌, ◌*◌}
use borrow.Author.Tests.{eq-eqb, ne_eqb}
use Rattle.layer.specs.Layout.{number_stride, start_place}
use Rattle.inspect_laws.proofs.All.{passed_more, passed_end, passed_stop}
use Rattle.inspect_laws.specs.Nested.{is_dense}
use Rattle.inspect_tree.specs.Columns.{span_layer}
use Rattle.inspect_spans.specs.Grouped.{Starts, dense_by, dense_next}
use native.Mathlib.Omega.{arith}
use Rattle.inspect_spans.proofs.nested.are_dense.Goals as goal

pub returns-then-g-ne0 : goal.returns-then-g-ne0
returns-then-g-ne0 c = let args = c.args in
    let wide : Starts args.numbers.now = record { each = λ x. omega (arith, (c.type_inv.numbers (x * number_stride + start_place)).fits) } in
    let here = c.loop-u.invariant.1 in
    let dense = dense_by wide c.requires.arranged.0 c.requires.arranged.1 here.0 c.used.ensures c.need.ensures c.group-g.ensures in
    passed_stop (is_dense (span_layer args.fields.now args.numbers.now args.n)) args.n c.loop-u.u (omega arith) (sym dense ∙ ne_eqb _ _ c.if-g-ne0.true)

pub loop-u-preserved : goal.loop-u-preserved
loop-u-preserved c = let args = c.args in
    let wide : Starts args.numbers.now = record { each = λ x. omega (arith, (c.type_inv.numbers (x * number_stride + start_place)).fits) } in
    let here = c.loop-u.invariant.1 in
    let dense = dense_by wide c.requires.arranged.0 c.requires.arranged.1 here.0 c.used.ensures c.need.ensures c.group-g.ensures in
    (c.group-g.ensures.group.high, (dense_next wide c.requires.arranged.1 here.0 c.group-g.ensures, passed_more here.1 (sym dense ∙ eq-eqb _ _ c.if-g-ne0.false)))

pub returns : goal.returns
returns c = passed_end c.args.n c.loop-u.invariant.1.1 (omega arith)
