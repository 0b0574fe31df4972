-- `are_nested`: each pass answers its test of rule 5.
use mathlib.Core.Path.{sym, ◌∙◌}
use Prim.Native.Nat.{◌+◌, ◌*◌}
use Rattle.layer.specs.Layout.{number_stride, start_place}
use Rattle.inspect_laws.proofs.All.{answer_no, answer_yes}
use Rattle.inspect_spans.specs.Grouped.{Starts, nested_none, nested_start, nested_inside, nested_apart, nested_dense, apart_by}
use native.Mathlib.Omega.{arith}
use Rattle.inspect_spans.proofs.nested.are_nested.Goals as goal

pub returns-then-n-eq0 : goal.returns-then-n-eq0
returns-then-n-eq0 c = let f = c.args.fields.now in
    let m = c.args.numbers.now in
    let n = c.args.n in
    nested_none f m n c.if-n-eq0.true

pub returns-then-not-are_starts : goal.returns-then-not-are_starts
returns-then-not-are_starts c = let f = c.args.fields.now in
    let m = c.args.numbers.now in
    let n = c.args.n in
    nested_start f m n (answer_no c.are_starts.ensures c.if-not-are_starts.true-raw)

pub returns-then-not-are_inside : goal.returns-then-not-are_inside
returns-then-not-are_inside c = let f = c.args.fields.now in
    let m = c.args.numbers.now in
    let n = c.args.n in
    nested_inside f m n (answer_yes c.are_starts.ensures c.if-not-are_starts.false-raw) (answer_no c.are_inside.ensures c.if-not-are_inside.true-raw)

pub returns-then-not-are_apart : goal.returns-then-not-are_apart
returns-then-not-are_apart c = let f = c.args.fields.now in
    let m = c.args.numbers.now in
    let n = c.args.n in
    let wide : Starts m = record { each = λ x. omega (arith, (c.type_inv.numbers (x * number_stride + start_place)).fits) } in
    let apart = apart_by f m n wide c.requires.positive c.sort.ensures.0 c.sort.ensures.1 in
    nested_apart f m n (answer_yes c.are_starts.ensures c.if-not-are_starts.false-raw) (answer_yes c.are_inside.ensures c.if-not-are_inside.false-raw) (sym apart ∙ answer_no c.are_apart.ensures c.if-not-are_apart.true-raw)

pub returns : goal.returns
returns c = let f = c.args.fields.now in
    let m = c.args.numbers.now in
    let n = c.args.n in
    let wide : Starts m = record { each = λ x. omega (arith, (c.type_inv.numbers (x * number_stride + start_place)).fits) } in
    let apart = apart_by f m n wide c.requires.positive c.sort.ensures.0 c.sort.ensures.1 in
    nested_dense f m n (answer_yes c.are_starts.ensures c.if-not-are_starts.false-raw) (answer_yes c.are_inside.ensures c.if-not-are_inside.false-raw) (sym apart ∙ answer_yes c.are_apart.ensures c.if-not-are_apart.false-raw) c.are_dense.ensures
