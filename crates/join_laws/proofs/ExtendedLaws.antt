-- What one lone row more leaves of the old rows, and their numbering.
use Rattle.std.specs.Prelude.{◌≡◌, refl, false, ◌⊎◌, ℕ, suc, ◌<◌, eqb}
use Rattle.std.proofs.Common.{inl, inr, arith}
use Rattle.std.proofs.Math.Decide.{dec_lt}
use Rattle.laws.specs.Test.{says_true, says_false, says_eqb}
use Rattle.tree_laws.specs.Older.{Older}
use Rattle.layer.specs.Layer.{Layer, parent}
use Rattle.layer.specs.Numbered.{Numbered}
use Rattle.join_laws.specs.Lone.{Lone, Kept}
use Rattle.join_laws.proofs.LoneLaws.{parted_numbered}
use Rattle.join_laws.specs.Extended.{Extended}

-- a row of d is one of t or the row more
pub old_or_new : {m n : ℕ} → m ≡ suc n → (x : ℕ) → x < m → (x < n) ⊎ (x ≡ n)
old_or_new {n = n} e x l = elim (dec_lt x n) [ yes y ↦ inl y | no y ↦ inr (omega arith) ]

module _ {t d : Layer} (r : Numbered t) (k : Extended t d) where
  pub extended_numbered : Numbered d
  extended_numbered = parted_numbered r k.parted

  not_new : {x : ℕ} → x < t.count → eqb x t.count ≡ false
  not_new {x} l = says_false (says_eqb x t.count) (λ e. omega arith)

  pub extended_kept : (x : ℕ) → x < t.count → Kept t d x
  extended_kept x l = k.parted.kept x l (not_new l)

  pub extended_parent : (x : ℕ) → x < t.count → parent d x ≡ parent t x
  extended_parent x l = (extended_kept x l).same_parent

  pub extended_lone : Lone d t.count
  extended_lone = k.parted.alone t.count (omega (arith, k.count)) (says_true (says_eqb t.count t.count) refl)

  pub extended_older : Older (parent t) (parent d) t.count (λ x. x < t.count)
  extended_older = record { inside = λ x l. l; above = λ x l h. r.one.inside x l h; same = extended_parent }
