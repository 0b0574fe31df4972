-- `are_links`: what is held so far is the test of the first i entries.
use Rattle.std.specs.Prelude.{◌≡◌, take}
use Rattle.join.specs.Copied.{are_links}
use Rattle.join.proofs.copied.are_links.Given as goal

abbrev pub invariant-loop-i : goal.invariant-loop-i
invariant-loop-i l = l.held ≡ are_links l.count (take l.i l.entries)
