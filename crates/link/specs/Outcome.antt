-- What a link gives in 01's and 02's numbers and values, and which of them each result stands for.
use Rattle.std.specs.Prelude.{Result, Ok, Err, ℕ}
use Rattle.table.specs.declared.refusal.Refusal.{Refusal}
use Rattle.table.specs.Refusal.{number_of}
use Rattle.link.specs.declared.Joined.{Joined}

-- a refusal's number; or how many rows the joinings renumbered, added up, and the head (02: "A hang gives the first row of the receiving stored tree")
pub data Outcome : Type 0 where
  refusal : ℕ → Outcome
  linked : (rows head : ℕ) → Outcome

-- a refusal by its name
abbrev pub refused : Refusal → Outcome
refused r = refusal (number_of r)

-- the number or the values of each result
abbrev pub outcome_of : Result Joined Refusal → Outcome
outcome_of (Ok j) = linked j.rows j.head
outcome_of (Err r) = refused r
