-- The test of the parts' lengths says that they fit a capacity.
use Rattle.std.specs.Prelude.{◌≡◌, refl, Bool, true, false, Some, None, ℕ, ◌*◌, ◌≤◌, length}
use Rattle.std.proofs.Common.{ap, sym, ◌∙◌, arith}
use Rattle.laws.specs.Test.{Says, holds, fails, says_map, says_and, says_leb, says_eqb, pick}
use Rattle.layer.specs.Layout.{field_stride, number_stride, entry_stride}
use Rattle.table.specs.Parts.{Parts}
use Rattle.table.specs.Capacity.{node_limit, Fits, fits, capacity_of}

pub says_fits : (t : Parts) → Says (Fits (length t.levels) t) (fits t)
unfolding fits
says_fits t = says_map to from
    (says_and (says_leb 1 n) (λ _. says_and (says_leb n node_limit) (λ _. says_and (says_eqb (length t.fields) (n * field_stride)) (λ _.
    says_and (says_eqb (length t.numbers) (n * number_stride)) (λ _. says_eqb (length t.ancestors) (n * entry_stride))))))
  where
    n : ℕ
    n = length t.levels

    to : (1 ≤ n) × ((n ≤ node_limit) × ((length t.fields ≡ n * field_stride) × ((length t.numbers ≡ n * number_stride) × (length t.ancestors ≡ n * entry_stride)))) → Fits n t
    to h = record { least = h.0; most = h.1.0; levels = refl; fields = h.1.1.0; numbers = h.1.1.1.0; ancestors = h.1.1.1.1 }

    from : Fits n t → (1 ≤ n) × ((n ≤ node_limit) × ((length t.fields ≡ n * field_stride) × ((length t.numbers ≡ n * number_stride) × (length t.ancestors ≡ n * entry_stride))))
    from f = (f.least, (f.most, (f.fields, (f.numbers, f.ancestors))))

-- parts that fit tell their capacity
pub capacity_fits : (t : Parts) → Fits (length t.levels) t → Some (length t.levels) ≡ capacity_of t
unfolding capacity_of
capacity_fits t f = go (fits t) (says_fits t)
  where
    go : (b : Bool) → Says (Fits (length t.levels) t) b → Some (length t.levels) ≡ pick b (Some (length t.levels)) None
    go true s = refl
    go false (fails n) = absurd (n f)

-- and all others are a misfit
pub capacity_misfit : (t : Parts) → (Fits (length t.levels) t → ⊥) → None ≡ capacity_of t
unfolding capacity_of
capacity_misfit t n = go (fits t) (says_fits t)
  where
    go : (b : Bool) → Says (Fits (length t.levels) t) b → None ≡ pick b (Some (length t.levels)) None
    go true (holds f) = absurd (n f)
    go false s = refl

-- the capacity that was told is one that the parts fit
pub fits_capacity : (t : Parts) (c : ℕ) → capacity_of t ≡ Some c → Fits c t
unfolding capacity_of
fits_capacity t c = go (fits t) (says_fits t)
  where
    go : (b : Bool) → Says (Fits (length t.levels) t) b → pick b (Some (length t.levels)) None ≡ Some c → Fits c t
    go true (holds f) e = let i : length t.levels ≡ c = cc in rw i at f
    go false s e = let z : ◌≡◌ {A = ℕ} 0 1 = cc in absurd (omega arith)

-- and parts that fit a capacity tell it
pub fits_told : {c : ℕ} {t : Parts} → Fits c t → capacity_of t ≡ Some c
fits_told {c} {t} f = sym (capacity_fits t (rw f.levels f)) ∙ ap Some f.levels
