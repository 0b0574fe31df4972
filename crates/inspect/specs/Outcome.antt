-- What inspection gives in 01's numbers and values, and which of them each result stands for.
use Rattle.std.specs.Prelude.{Result, Ok, Err, Bool, ℕ}
use Rattle.table.specs.declared.refusal.Refusal.{Refusal}
use Rattle.table.specs.Refusal.{number_of}

-- a refusal's number; or whether the table passes, yes or no
pub data Outcome : Type 0 where
  refusal : ℕ → Outcome
  passes : Bool → Outcome

-- a refusal by its name
abbrev pub refused : Refusal → Outcome
refused r = refusal (number_of r)

-- the number or the value of each result
abbrev pub outcome_of : Result Bool Refusal → Outcome
outcome_of (Ok b) = passes b
outcome_of (Err r) = refused r
