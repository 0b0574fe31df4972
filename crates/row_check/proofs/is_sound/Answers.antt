-- `is_sound` is the row check: each call gives one of its conjuncts.
use mathlib.Core.Path.{ap, ◌∙◌}
use Rattle.span.specs.declared.Span.{Span}
use Rattle.span.specs.Numbers.{within_limit}
use Rattle.layer.specs.SoundLaws.{gathered}
use Rattle.row_check.proofs.is_sound.Goals as goal

pub returns : goal.returns
returns c = gathered record {
  parent_is = c.is_link-parent.ensures;
  first_is = c.is_link-first.ensures;
  last_is = c.is_link-last.ensures;
  next_is = c.is_link-next.ensures;
  upper_is = c.is_link-upper.ensures;
  path_is = c.is_link-path.ensures;
  end_is = c.within_limit-end.ensures ∙ ap (λ (s : Span). within_limit s.start s.set_size) c.new.ensures;
}
