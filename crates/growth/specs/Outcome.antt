-- What a growth gives in 01's numbers and values, and which of them each answer of a growth stands for.
use Rattle.std.specs.Prelude.{ℕ, Result, Ok, Err}
use Rattle.table.specs.declared.refusal.Refusal.{Refusal}
use Rattle.table.specs.Refusal.{number_of}
use Rattle.growth.specs.declared.Growth.{Growth}

-- a refusal's number; or the count afterwards, the new node, how many rows were renumbered, and their head (02: "which image headed the renumbering")
pub data Outcome : Type 0 where
  refusal : ℕ → Outcome
  node : (count node rows head : ℕ) → Outcome

-- a refusal by its name
abbrev pub refused : Refusal → Outcome
refused r = refusal (number_of r)

-- the number or the values of each case
abbrev pub outcome_of : Result Growth Refusal → Outcome
outcome_of (Ok g) = node g.state.count g.node g.rows g.head
outcome_of (Err r) = refused r
