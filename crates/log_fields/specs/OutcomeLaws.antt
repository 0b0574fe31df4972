-- The numbers and values of an outcome tell its case: a promise on `outcome_of` says which case is answered, and with what.
use Rattle.std.specs.Prelude.{◌≡◌, refl, List, Option, Some, None, ℕ, get_or, eqb}
use Rattle.std.proofs.Common.{sym, ap, ◌∙◌}
use Rattle.laws.specs.Test.{pick}
use Rattle.log_fields.specs.declared.fault.Fault.{Fault}
use Rattle.log_fields.specs.declared.fault.Fault.TheVariants.{BadTag, BadLength, Truncated, DirtyFiller}
use Rattle.log_fields.specs.declared.Field.{Field}
use Rattle.log_fields.specs.declared.Field.TheVariants.{End, Refused, Leaf, Root, Question, Alike, Filler}
use Rattle.log_fields.specs.Fault.{number_of}
use Rattle.log_fields.specs.Outcome.{Outcome, end, refusal, field, root_told, outcome_of}

-- what a root tells says which opening it names, or none
abbrev pub opening_in : List ℕ → Option ℕ
opening_in v = pick (eqb (get_or v 0 0) 1) (Some (get_or v 1 0)) None

pub opening_told : (opening : Option ℕ) → opening_in (root_told opening) ≡ opening
opening_told None = refl
opening_told (Some opening) = refl

-- the refusal of a number
fault_of : ℕ → Fault
fault_of n = pick (eqb n 6) BadTag (pick (eqb n 7) BadLength (pick (eqb n 8) Truncated DirtyFiller))

fault_told : (f : Fault) → fault_of (number_of f) ≡ f
unfolding fault_of
fault_told BadTag = refl
fault_told BadLength = refl
fault_told Truncated = refl
fault_told DirtyFiller = refl

-- the case that an outcome stands for
case_of : Outcome → Field
case_of end = End
case_of (refusal n next) = Refused (fault_of n) next
case_of (field kind v next) =
    pick (eqb kind 1) (Leaf (get_or v 0 0) (get_or v 1 0) (get_or v 2 0) next)
    (pick (eqb kind 2) (Root (opening_in v) next)
    (pick (eqb kind 3) (Question (get_or v 0 0) (get_or v 1 0) next)
    (pick (eqb kind 4) (Alike (get_or v 0 0) (get_or v 1 0) next)
    (Filler next))))

case_outcome : (f : Field) → case_of (outcome_of f) ≡ f
unfolding case_of
case_outcome End = refl
case_outcome (Refused fault next) = ap (λ f. Refused f next) (fault_told fault)
case_outcome (Leaf parent label face next) = refl
case_outcome (Root opening next) = rw (opening_told opening)
case_outcome (Question x y next) = refl
case_outcome (Alike x y next) = refl
case_outcome (Filler next) = refl

pub outcome_tells : (f g : Field) → outcome_of f ≡ outcome_of g → f ≡ g
outcome_tells f g e = sym (case_outcome f) ∙ ap case_of e ∙ case_outcome g
