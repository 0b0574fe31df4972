-- `nca_table_add_root`: the growth, then its reply.
use Rattle.std.proofs.Common.{rules, ◌≡◌, ◌∙◌, length}
use Rattle.table.specs.Parts.{parts_of}
use Rattle.std.specs.Option.{is_some, unwrap_or}
use Rattle.growth.specs.Growth.{add_over}
use Rattle.growth.specs.GrowthLaws.{over_told}
use Rattle.replies.specs.Reply.{state_of, is_named}
use Rattle.desk_growth.specs.GrowthCallsLaws.{growth_misfit, growth_served}
use Rattle.desk_growth.proofs.nca_table_add_root.Goals as goal

pub returns-then-out-ne-GROWN_OUT : goal.returns-then-out-ne-GROWN_OUT
returns-then-out-ne-GROWN_OUT c = let a = c.args in growth_misfit (parts_of a.fields.now a.numbers.now a.levels.now a.ancestors.now) a.tally.now a.out.now _ c.from.ensures c.if-out-ne-GROWN_OUT.true

pub returns : goal.returns
returns c =
    let a = c.args in
    let t = parts_of a.fields.now a.numbers.now a.levels.now a.ancestors.now in
    let n = length a.scratch.now in
    let o = c.then_some-over.result in
    let told : add_over t a.tally.now n (state_of a.count) a.x (is_some o) (unwrap_or o 0) ≡ add_over t a.tally.now n (state_of a.count) a.x (is_named a.named) a.opening =
    rw c.then_some-over.ensures (over_told t a.tally.now n (state_of a.count) a.x (is_named a.named) a.opening) in
    growth_served t _ a.tally.now _ a.out.now _ _ _ c.if-out-ne-GROWN_OUT.false c.reply_grown.ensures (c.add_root_over-grown.ensures.grown ∙ told) (search rules)
