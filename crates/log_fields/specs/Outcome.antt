-- What reading a field gives, in document 01's numbers, and which of them each case of `Field` stands for.
use Rattle.std.specs.Prelude.{List, [], ◌∷◌, Option, Some, None, ℕ}
use Rattle.log_fields.specs.declared.Field.{Field}
use Rattle.log_fields.specs.declared.Field.TheVariants.{End, Refused, Leaf, Root, Question, Alike, Filler}
use Rattle.log_fields.specs.Fault.{number_of}

-- the log's end; a refusal's number and the next place; or a field's kind, its values and the next place
pub data Outcome : Type 0 where
  end : Outcome
  refusal : ℕ → ℕ → Outcome
  field : ℕ → List ℕ → ℕ → Outcome

-- what a root tells: 1 and the opening that it names, or 0 and 0
abbrev pub root_told : Option ℕ → List ℕ
root_told None = 0 ∷ 0 ∷ []
root_told (Some opening) = 1 ∷ opening ∷ []

-- the numbers and values of each case
abbrev pub outcome_of : Field → Outcome
outcome_of End = end
outcome_of (Refused fault next) = refusal (number_of fault) next
outcome_of (Leaf parent label face next) = field 1 (parent ∷ label ∷ face ∷ []) next
outcome_of (Root opening next) = field 2 (root_told opening) next
outcome_of (Question x y next) = field 3 (x ∷ y ∷ []) next
outcome_of (Alike x y next) = field 4 (x ∷ y ∷ []) next
outcome_of (Filler next) = field 9 [] next
