-- `nca_add_root`: the growth of what the bytes hold, then the bytes and the reply.
use Rattle.replies.specs.ReplyLaws.{misfit_held}
use Rattle.desk_tree_growth.specs.TreeGrowthCallsLaws.{root_tree_misfit, root_out_misfit, root_kept, root_held}
use Rattle.std.proofs.Common.{rules, ◌∙◌, ◌≡◌}
use Rattle.std.specs.Option.{is_some, unwrap_or}
use Rattle.table.specs.Lent.{parts_in_mut}
use Rattle.table.specs.Scratch.{least_scratch}
use Rattle.growth.specs.Growth.{add_root}
use Rattle.growth.specs.GrowthLaws.{root_told}
use Rattle.replies.specs.Reply.{is_named}
use Rattle.desk_tree_growth.proofs.nca_add_root.Goals as goal

pub returns-then-tree-ne-BYTES : goal.returns-then-tree-ne-BYTES
returns-then-tree-ne-BYTES c = record { answer = root_tree_misfit c.args.tree.now c.args.out.now _ _ c.from.ensures c.if-tree-ne-BYTES.true; held = λ z. misfit_held c.from.ensures z }

pub returns-then-out-ne-GROWN_OUT : goal.returns-then-out-ne-GROWN_OUT
returns-then-out-ne-GROWN_OUT c = record { answer = root_out_misfit c.args.tree.now c.args.out.now _ _ c.from-then-out-ne-GROWN_OUT.ensures c.if-tree-ne-BYTES.false c.if-out-ne-GROWN_OUT.true; held = λ z. misfit_held c.from-then-out-ne-GROWN_OUT.ensures z }

pub keep_grown-requires : goal.keep_grown-requires
keep_grown-requires c = record { tree_len = c.if-tree-ne-BYTES.false; fits = search rules; tally_len = search rules }

pub reply_grown-requires : goal.reply_grown-requires
reply_grown-requires c = c.if-out-ne-GROWN_OUT.false

pub returns : goal.returns
returns c =
    let a = c.args in
    let t = parts_in_mut c.read_parts.new.parts in
    let w = c.read_tally.new.tally in
    let s = c.read_state-state.result in
    let o = c.then_some-over.result in
    let told : add_root t w least_scratch s (is_some o) (unwrap_or o 0) ≡ add_root t w least_scratch s (is_named a.named) a.opening =
    rw c.then_some-over.ensures (root_told t w least_scratch s (is_named a.named) a.opening) in
    let grown = c.add_root-grown.ensures.grown ∙ told in
    record { answer = root_kept a.tree.now a.out.now _ _ _ _ _ _ _ _ c.if-tree-ne-BYTES.false c.if-out-ne-GROWN_OUT.false c.read_parts.ensures.held c.read_tally.ensures c.read_state-state.ensures c.keep_grown.ensures.tree c.reply_grown.ensures _ _ grown (search rules); held = λ _. root_held a.tree.now _ _ _ _ _ _ _ c.read_parts.ensures.held c.read_tally.ensures c.read_state-state.ensures c.keep_grown.ensures.held _ _ grown (search rules) }
