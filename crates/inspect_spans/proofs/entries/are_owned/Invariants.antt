-- `are_owned`: what is held so far is the test of the first i entries.
use Rattle.std.specs.Prelude.{◌≡◌}
use Rattle.inspect_spans.specs.Owned.{are_owned}
use Rattle.inspect_spans.proofs.entries.are_owned.Given as goal

abbrev pub invariant-loop-i : goal.invariant-loop-i
invariant-loop-i l = l.held ≡ are_owned l.ancestors l.a l.b l.x l.i
