-- `are_owned`: what is held so far is the test of the first i entries.
use Rattle.std.proofs.Common.{sym, add-one}
use Rattle.inspect_spans.specs.Owned.{owned_none, owned_more}
use Rattle.inspect_spans.proofs.entries.are_owned.Goals as goal

pub loop-i-init : goal.loop-i-init
loop-i-init c = sym (owned_none _ _ _ _)

pub loop-i-preserved : goal.loop-i-preserved
loop-i-preserved c = rw (add-one, owned_more, ← c.owned.ensures, ← c.loop-i.invariant)
