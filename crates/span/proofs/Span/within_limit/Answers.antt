-- `within_limit`: the end is marked exactly where it is past the limit.
use Rattle.span.specs.NumberLaws.{capped_test}
use Rattle.span.proofs.Span.within_limit.Goals as goal

pub returns : goal.returns
returns c = rw c.number.ensures (capped_test _)
