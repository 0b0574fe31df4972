-- Laws of the stored answer.
use Rattle.std.specs.Prelude.{◌≡◌, refl, true, false, ◌&&◌, List, ◌≢◌, ℕ, ◌+◌, ◌-◌, ◌≤◌, Option, Some, None, leb}
use Rattle.std.proofs.Common.{arith}
use Rattle.std.proofs.Math.Bool.{Bool}
use Rattle.std.proofs.Math.Logic.{inl, inr}
use Rattle.laws.specs.Test.{pick, Says, holds, fails, says_get, says_true, says_or, says_eqb, says_leb}
use Rattle.span.specs.Constants.{limit}
use Rattle.span.specs.Rank.{rank_of}
use Rattle.layer.specs.declared.row.Row.{Row}
use Rattle.layer.specs.Row.{entry_at}
use Rattle.layer.specs.Layer.{Layer}
use Rattle.layer.specs.Checked.{IsRow}
use Rattle.layer.specs.CheckedLaws.{says_row}
use Rattle.ancestry.specs.declared.compressed.Side.{Side}
use Rattle.ancestry.specs.CompressedStep.{side_from}
use Rattle.ancestry.specs.StoredAnswer.{between, alone, met, parents, paths, depths, is_on_row, join, stored_from, stored_answer}

-- two numbers within the limit are not farther apart than that
pub between_limit : (a b : ℕ) → a ≤ limit → b ≤ limit → between a b ≤ limit
unfolding between
between_limit a b h k = go (leb a b)
  where
    go : (t : Bool) → pick t (b - a) (a - b) ≤ limit
    go true = omega arith
    go false = omega arith

-- how far two numbers are apart, by differences that stop at 0
pub apart_is : (a b : ℕ) → (a - b) + (b - a) ≡ between a b
unfolding between
apart_is a b = go (says_leb a b)
  where
    go : {t : Bool} → Says (a ≤ b) t → (a - b) + (b - a) ≡ pick t (b - a) (a - b)
    go (holds h) = omega arith
    go (fails h) = omega arith

module _ (n : ℕ) (row : ℕ → Row) where
  -- the row that a path row is read off
  pub on_row_parent : (s : Side) → is_on_row n row s ≡ true → s.below ≢ s.row → IsRow n row (row s.below).parent
  unfolding is_on_row
  on_row_parent s e d =
      elim (says_get (says_or (says_eqb s.below s.row) (says_row n row (row s.below).parent)) e) [ inl h ↦ absurd (d h) | inr h ↦ h ]

  -- two sides joined, by their tests
  pub join_by : (c k : Side) {a b : Bool} → is_on_row n row c ≡ a → is_on_row n row k ≡ b
      → join n row c k ≡ pick (a && b) (met (parents row) (paths row) (depths row) c k) None
  unfolding join
  join_by c k h i = rw (h, i)

-- a side by the rank and the entry that were read
pub side_is : (n : ℕ) (row : ℕ → Row) (a : List ℕ) (d o z : ℕ) {i e : ℕ} {s : Option Side} → i ≡ rank_of d → e ≡ entry_at a z i → s ≡ side_from n row e d o z
    → s ≡ side_from n row (entry_at a z (rank_of d)) d o z
side_is n row a d o z h j k = rw (k, j, h)

-- the stored answer of a node with itself takes no step
pub stored_itself : (t : Layer) (x : ℕ) → stored_answer t x x ≡ Some (alone x)
unfolding stored_from
stored_itself t x = rw (says_true (says_eqb x x) refl)
