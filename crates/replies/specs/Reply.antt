-- What a call gives a C host: 0 or 01's refusal number, and the out slice afterwards. A refusal leaves the out slice as it was.
use Rattle.std.specs.Prelude.{Bool, not, List, [], ◌∷◌, ℕ, eqb, ℤ, pos, length}
use Rattle.laws.specs.Test.{bit, pick}
use Rattle.table.specs.declared.refusal.Refusal.TheVariants.{Misfit}
use Rattle.table.specs.declared.state.State.{State}
use Rattle.table.specs.Parts.{Parts}
use Rattle.table.specs.Refusal.{number_of}
use Rattle.set_up.specs.Outcome.{Outcome as SetUpOutcome, refusal as not_made, empty}
use Rattle.growth.specs.Outcome.{Outcome as GrowthOutcome, refusal as not_grown, node}
use Rattle.link.specs.Outcome.{Outcome as LinkOutcome, refusal as not_linked, linked}
use Rattle.query.specs.Outcome.{Outcome as QuestionOutcome, refusal as no_answer, answered}
use Rattle.alike.specs.Outcome.{Outcome as AlikeOutcome, refusal as no_value, same}
use Rattle.inspect.specs.Outcome.{Outcome as InspectionOutcome, refusal as not_inspected, passes}

-- the count, as it goes in
abbrev pub state_of : ℕ → State
state_of count = record { count = count }

-- whether an opening is named, as it goes in: 0 is no, any other number yes
abbrev pub is_named : ℕ → Bool
is_named n = not (eqb n 0)

pub record Reply (A : Type 0) : Type 0 where
  pub number : ℕ
  pub out : List A

abbrev pub reply : {A : Type 0} → ℕ → List A → Reply A
reply n l = record { number = n; out = l }

-- an out slice of another length is a misfit
abbrev pub misfit : {A : Type 0} → List A → Reply A
misfit out = reply (number_of Misfit) out

-- by whether the out slice has room for n values and no more
abbrev pub on_length : {A B : Type 0} → ℕ → List A → B → B → B
on_length n out served other = pick (eqb (length out) n) served other

-- of a call that changes a table: the reply, and the parts and the tally afterwards
pub record Outcome : Type 0 where
  pub replied : Reply ℕ
  pub parts : Parts
  pub tally : List ℕ

abbrev pub outcome : Parts → List ℕ → Reply ℕ → Outcome
outcome t w r = record { replied = r; parts = t; tally = w }

-- the count
abbrev pub made_reply : List ℕ → SetUpOutcome → Reply ℕ
made_reply out (not_made n) = reply n out
made_reply out (empty c) = reply 0 (c ∷ [])

-- count, the new node, the rows renumbered, and their head
abbrev pub grown_reply : List ℕ → GrowthOutcome → Reply ℕ
grown_reply out (not_grown n) = reply n out
grown_reply out (node c n k h) = reply 0 (c ∷ n ∷ k ∷ h ∷ [])

-- the rows renumbered, and the head
abbrev pub link_reply : List ℕ → LinkOutcome → Reply ℕ
link_reply out (not_linked n) = reply n out
link_reply out (linked k h) = reply 0 (k ∷ h ∷ [])

-- the nearest common ancestor, the branches towards x and y, their distances, and the label
abbrev pub question_reply : List ℤ → QuestionOutcome → Reply ℤ
question_reply out (no_answer n) = reply n out
question_reply out (answered a u v i j l) = reply 0 (pos a ∷ pos u ∷ pos v ∷ i ∷ j ∷ pos l ∷ [])

-- 1 or 0
abbrev pub alike_reply : List ℕ → AlikeOutcome → Reply ℕ
alike_reply out (no_value n) = reply n out
alike_reply out (same b) = reply 0 (b ∷ [])

-- 1 or 0
abbrev pub inspection_reply : List ℕ → InspectionOutcome → Reply ℕ
inspection_reply out (not_inspected n) = reply n out
inspection_reply out (passes b) = reply 0 (bit b ∷ [])
