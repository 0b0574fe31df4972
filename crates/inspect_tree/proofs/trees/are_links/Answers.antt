-- `are_links`: the chains of the rows below x end, and `rows` counts what they meet.
use Rattle.std.specs.Prelude.{◌≡◌}
use Rattle.std.proofs.Common.{sym, ◌∙◌, arith}
use Rattle.inspect_laws.proofs.All.{passed_more, passed_end, passed_stop}
use Rattle.inspect_laws.specs.Trees.{is_linked}
use Rattle.inspect_tree.specs.Columns.{field_layer}
use Rattle.inspect_tree.specs.Links.{linked_by, unlinked, met_most, own_most, rows_more, stop_links, all_links}
use Rattle.inspect_tree.proofs.trees.are_links.Goals as goal

pub returns-in_default : goal.returns-in_default
returns-in_default c = let t = field_layer c.args.fields.now c.args.n in
    stop_links t (passed_stop (is_linked t) c.args.n c.loop-x.x (omega arith) (unlinked t c.loop-x.x c.in_default.ensures))

pub returns-then-not-is_last : goal.returns-then-not-is_last
returns-then-not-is_last c = let t = field_layer c.args.fields.now c.args.n in
    stop_links t (passed_stop (is_linked t) c.args.n c.loop-x.x (omega arith) (sym (linked_by t c.loop-x.x c.in-Some.ensures c.is_last.ensures) ∙ c.if-not-is_last.true))

pub loop-x-preserved : goal.loop-x-preserved
loop-x-preserved c = let t = field_layer c.args.fields.now c.args.n in
    let x = c.loop-x.x in
    let inv = c.loop-x.invariant in
    let k = c.in-Some.ensures in (
      passed_more inv.0 (sym (linked_by t x k c.is_last.ensures) ∙ c.if-not-is_last.false),
      (
        omega (arith, inv.1.0, rows_more t x, k.1, c.own_row.ensures),
        omega (arith, inv.1.1, met_most t x k, own_most t x c.own_row.ensures),
      ),
    )

pub returns : goal.returns
returns c = let all : c.loop-x.x ≡ c.args.n = omega arith in
    all_links (field_layer c.args.fields.now c.args.n) (passed_end c.args.n c.loop-x.invariant.0 (omega arith)) (rw (c.loop-x.invariant.1.0, all))
