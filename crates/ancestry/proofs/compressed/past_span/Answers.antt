-- `past_span`: the side stays, or the row above is met.
use Rattle.std.proofs.Common.{sym, ◌∙◌}
use Rattle.ancestry.specs.CompressedStepLaws.{span_stay, span_up}
use Rattle.ancestry.proofs.compressed.past_span.Goals as goal

pub returns-then-covers : goal.returns-then-covers
returns-then-covers c = span_stay _ _ _ _ (sym c.covers.ensures ∙ c.if-covers.true)

pub returns : goal.returns
returns c = c.above.ensures ∙ span_up _ _ _ _ (sym c.covers.ensures ∙ c.if-covers.false)
