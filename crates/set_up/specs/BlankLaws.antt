-- What set-up answers and leaves, by what the parts fit.
use Rattle.std.specs.Prelude.{◌≡◌, List, Some, None, ℕ, ◌<◌, ℤ, pos, length, replicate}
use Rattle.std.proofs.Common.{ap, ◌∙◌, arith}
use Rattle.std.proofs.lemmas.List.{length-replicate, get_or-replicate}
use Rattle.laws.specs.Tabulate.{tabulate, tabulated}
use Rattle.tree_laws.specs.Ancestor.{none}
use Rattle.table.specs.Parts.{Parts, parts_of}
use Rattle.table.specs.Capacity.{Fits}
use Rattle.table.specs.Table.{Table}
use Rattle.table.specs.Rules.{Rules}
use Rattle.table.specs.declared.refusal.Refusal.TheVariants as refusals
use Rattle.tally.specs.Layout.{tally_length}
use Rattle.tally.specs.Fit.{capacity_with}
use Rattle.tally.specs.FitLaws.{with_told}
use Rattle.set_up.specs.Outcome.{empty, refused}
use Rattle.set_up.specs.Blank.{blank_field, blank, set_up, parts_after, tally_after}

-- the parts or the tally do not fit: nothing is changed
pub set_up_misfit : (t : Parts) (w : List ℕ) → capacity_with t w ≡ None
    → (refused refusals.Misfit ≡ set_up t w) × ((t ≡ parts_after t w) × (w ≡ tally_after t w))
unfolding set_up parts_after tally_after
set_up_misfit t w m = (rw m, (rw m, rw m))

-- the values of a constant function are equal numbers
tabulate_same : {A : Type 0} (x : A) (n : ℕ) → replicate n x ≡ tabulate (λ _. x) n
tabulate_same x n = tabulated (λ _. x) x (replicate n x) (λ i h. get_or-replicate n i x x (omega (arith, length-replicate n x))) ∙ ap (tabulate (λ _. x)) (length-replicate n x)

-- they fit: each part is blank, and the tally
pub set_up_fits : (t : Parts) (w : List ℕ) (c : ℕ) {fields numbers : List ℕ} {levels : List ℤ} {ancestors w' : List ℕ} → capacity_with t w ≡ Some c
    → fields ≡ tabulate blank_field (length t.fields) → numbers ≡ replicate (length t.numbers) 0
    → levels ≡ replicate (length t.levels) (pos 0) → ancestors ≡ replicate (length t.ancestors) none → w' ≡ replicate (length w) 0
    → (empty 0 ≡ set_up t w) × ((parts_of fields numbers levels ancestors ≡ parts_after t w) × (w' ≡ tally_after t w))
unfolding set_up parts_after tally_after blank
set_up_fits t w c m a b l d k =
    let numbers = tabulate_same {A = ℕ} 0 (length t.numbers) in
    let levels = tabulate_same (pos 0) (length t.levels) in
    let entries = tabulate_same {A = ℕ} none (length t.ancestors) in
    (rw m, (rw (m, a, b ∙ numbers, l ∙ levels, d ∙ entries), rw (m, k)))

-- parts and a tally that fit are never refused
pub set_up_served : (t : Parts) (w : List ℕ) (c : ℕ) → Fits c t → length w ≡ tally_length → set_up t w ≡ empty 0
unfolding set_up
set_up_served t w c f l = rw (with_told t w f l)

-- an empty table passes inspection
pub empty_rules : (capacity : ℕ) (t : Table) → t.layer.count ≡ 0 → Rules capacity t
empty_rules capacity t e = record {
  one = record {
    trees = record { count = omega arith; inside = λ x l. none_in_use x l; depth = λ x l. none_in_use x l; children = λ x l. none_in_use x l };
    lines = record { root = λ x l. none_in_use x l; level = λ x l. none_in_use x l };
    labels = record { most = λ x l. none_in_use x l; root = λ x l. none_in_use x l };
    faces = record { most = λ x l. none_in_use x l; root = λ x l. none_in_use x l };
  };
  two = record { path = λ x l. none_in_use x l; upper = λ x l. none_in_use x l; size = λ x l. none_in_use x l };
  three = λ x l. none_in_use x l;
  four = λ x l. none_in_use x l;
  five = record { apart = λ x l. none_in_use x l; inside = λ x l. none_in_use x l; room = λ x l. none_in_use x l; dense = λ x l. none_in_use x l; first = λ x l. none_in_use x l };
  six = λ x l. none_in_use x l;
}
  where
    none_in_use : {A : Type 0} (x : ℕ) → x < t.layer.count → A
    none_in_use x l = absurd (omega arith)
