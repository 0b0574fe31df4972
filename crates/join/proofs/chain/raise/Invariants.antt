-- `raise` walks as its definition does.
use Rattle.std.specs.Prelude.{◌≡◌, ◌-◌, length}
use Rattle.join.specs.Chain.{raised}
use Rattle.join.proofs.chain.raise.Given as goal

abbrev pub invariant-loop : goal.invariant-loop
invariant-loop l = (length l.fields ≡ length l.initial.fields) × (raised l.count l.initial.fields l.first ≡ raised (l.count - l.counter) l.fields l.u)
