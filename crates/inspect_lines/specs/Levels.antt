-- One less than a level, as a machine word.
use Rattle.std.specs.Prelude.{◌≡◌, refl, true, false, ℕ, zero, suc, ℤ, pos, negsuc, ◌+ℤ◌, ◌-ℤ◌}
use Rattle.std.proofs.Common.{ap, sym, ◌∙◌, arith, SFits, ltb-true, lt-ltb}
use Rattle.std.proofs.Math.IntN.{pred_ℤ, -ℤ_one, -ℤ-+ℤ_cancel, +ℤ-neg_ℤ_cancel}
use Rattle.std.specs.Int.Signed.{lt_z}
use Rattle.std.specs.Int.{w32}
use Rattle.laws.specs.Test.{says_eq, says_false}
use Rattle.table.specs.Level.{eq_z}
use Rattle.table.proofs.LevelLaws.{says_eq_z}

pred_fits : (l a : ℤ) → SFits w32 l → lt_z l a ≡ true → SFits w32 a → SFits w32 (pred_ℤ a)
pred_fits l (pos zero) f h g = record { sfits = omega arith }
pred_fits l (pos (suc n)) f h g = record { sfits = omega (arith, g.sfits) }
pred_fits (pos m) (negsuc n) f h g = let z : ◌≡◌ {A = ℕ} 0 1 = cc in absurd (omega arith)
pred_fits (negsuc m) (negsuc n) f h g = record { sfits = omega (arith, f.sfits, ltb-true n m h) }

-- below another level there is room for one less
pub less_fits : (l a : ℤ) → SFits w32 l → lt_z l a ≡ true → SFits w32 a → SFits w32 (a -ℤ pos 1)
less_fits l a f h g = rw (-ℤ_one a) (pred_fits l a f h g)

pred_lt : (a : ℤ) → lt_z (pred_ℤ a) a ≡ true
pred_lt (pos zero) = refl
pred_lt (pos (suc n)) = lt-ltb n (suc n) (omega arith)
pred_lt (negsuc n) = lt-ltb n (suc n) (omega arith)

-- what is not below a level is not one less
pub not_less : (l a : ℤ) → lt_z l a ≡ false → false ≡ eq_z l (a -ℤ pos 1)
not_less l a h = sym (says_false (says_eq_z l (a -ℤ pos 1)) no)
  where
    no : l ≡ a -ℤ pos 1 → ⊥
    no e =
        let y : lt_z l a ≡ true = rw (e ∙ -ℤ_one a) (pred_lt a) in
        let z : ◌≡◌ {A = ℕ} 0 1 = cc in
        omega arith

-- one less from the other side
pub less_more : (l a : ℤ) → eq_z a (l -ℤ pos 1) ≡ eq_z l (a +ℤ pos 1)
less_more l a = says_eq
    (λ e. sym (-ℤ-+ℤ_cancel l (pos 1)) ∙ ap (λ (z : ℤ). z +ℤ pos 1) (sym e))
    (λ e. sym (+ℤ-neg_ℤ_cancel a (pos 1)) ∙ ap (λ (z : ℤ). z -ℤ pos 1) (sym e))
    (says_eq_z a (l -ℤ pos 1))
    (says_eq_z l (a +ℤ pos 1))
