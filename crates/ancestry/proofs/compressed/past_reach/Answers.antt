-- `past_reach`: the side stays, or the row above is met.
use Rattle.std.proofs.Common.{sym, ◌∙◌}
use Rattle.ancestry.specs.CompressedStepLaws.{reach_stay, reach_up}
use Rattle.ancestry.proofs.compressed.past_reach.Goals as goal

pub returns-then-reaches : goal.returns-then-reaches
returns-then-reaches c = reach_stay _ _ _ _ (sym c.reaches.ensures ∙ c.if-reaches.true)

pub returns : goal.returns
returns c = c.above.ensures ∙ reach_up _ _ _ _ (sym c.reaches.ensures ∙ c.if-reaches.false)
