-- What set-up gives in 01's numbers and values, and which of them each result stands for.
use Rattle.std.specs.Prelude.{Result, Ok, Err, ℕ}
use Rattle.table.specs.declared.refusal.Refusal.{Refusal}
use Rattle.table.specs.Refusal.{number_of}
use Rattle.table.specs.declared.state.State.{State}

-- a refusal's number; or the count
pub data Outcome : Type 0 where
  refusal : ℕ → Outcome
  empty : ℕ → Outcome

-- a refusal by its name
abbrev pub refused : Refusal → Outcome
refused r = refusal (number_of r)

-- the number or the value of each case
abbrev pub outcome_of : Result State Refusal → Outcome
outcome_of (Ok s) = empty s.count
outcome_of (Err r) = refused r
