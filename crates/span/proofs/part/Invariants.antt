-- `part` multiplies the set size as often as the exponent says: after k turns the product is its k-th power.
use Rattle.std.specs.Prelude.{◌≡◌, ◌^◌, ◌≤◌}
use Rattle.span.specs.Constants.{exponent}
use Rattle.span.proofs.part.Given as goal

abbrev pub invariant-loop : goal.invariant-loop
invariant-loop l = (l.counter ≤ exponent) × (l.r ≡ l.set_size ^ l.counter)
