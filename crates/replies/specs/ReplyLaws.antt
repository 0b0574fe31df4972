-- An out slice that has its length, and one that has not; by itself, and beside a tree's bytes.
use Rattle.std.specs.Prelude.{◌≡◌, ◌≢◌, List, ℕ, length}
use Rattle.std.proofs.Common.{◌∙◌, arith}
use Rattle.laws.specs.Test.{says_eqb, says_true, says_false}
use Rattle.replies.specs.Reply.{on_length}

pub on_length_lem : {A B : Type 0} (n : ℕ) (out : List A) (served other : B) → length out ≡ n → served ≡ on_length n out served other
on_length_lem n out served other e = rw (says_true (says_eqb (length out) n) e)

pub off_length : {A B : Type 0} (n : ℕ) (out : List A) (served other : B) → length out ≢ n → other ≡ on_length n out served other
off_length n out served other e = rw (says_false (says_eqb (length out) n) e)

module _ {B : Type 0} (m : ℕ) (b : List ℕ) {A : Type 0} (out : List A) (n : ℕ) (served other : B) where
  -- the tree, then the out slice, has another length
  pub tree_misfit : length b ≢ m → other ≡ on_length m b (on_length n out served other) other
  tree_misfit e = off_length m b (on_length n out served other) other e

  pub out_misfit : length b ≡ m → length out ≢ n → other ≡ on_length m b (on_length n out served other) other
  out_misfit e f = off_length n out served other f ∙ on_length_lem m b (on_length n out served other) other e

  -- both have their lengths
  pub both_fit : length b ≡ m → length out ≡ n → served ≡ on_length m b (on_length n out served other) other
  both_fit e f = on_length_lem n out served other f ∙ on_length_lem m b (on_length n out served other) other e

-- a misfit is not 0
pub misfit_held : {A : Type 0} {r : ℕ} → r ≡ 3 → r ≡ 0 → A
misfit_held h z = absurd (omega arith)
