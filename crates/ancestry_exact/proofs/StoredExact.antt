-- On a numbered layer the stored answer meets sound rows only, and is the nearest common ancestor in the stored tree and both branches.
use Rattle.std.specs.Prelude.{◌≡◌, refl, true, ◌≢◌, ℕ, ◌<◌}
use Rattle.std.proofs.Common.{inr}
use Rattle.std.proofs.Math.Decide.{ℕ_discrete}
use Rattle.laws.specs.Test.{says_true, says_false, says_or, says_eqb}
use Rattle.tree_laws.specs.Ancestor.{here}
use Rattle.tree_laws.specs.AncestorLaws.{anc_in}
use Rattle.tree_laws.specs.Nca.{Branch, itself, child, Characteristic}
use Rattle.tree_laws.specs.StoredFromCompressed.{stored_nca, stored_to_x, stored_to_y, stored_characteristic}
use Rattle.layer.specs.Layer.{Layer, parent, upper}
use Rattle.layer.specs.Spans.{p}
use Rattle.layer.specs.Numbered.{Numbered}
use Rattle.layer.specs.CheckedLaws.{says_row}
use Rattle.layer_laws.proofs.Numbered.{stored_tree, compressed_tree, uppers, compressed_kindred}
use Rattle.layer_laws.proofs.Nesting.{p_injective}
use Rattle.ancestry.specs.StoredAnswer.{alone, is_on_row, meeting, branch_of, join, stored_from, stored_answer}
use Rattle.ancestry_exact.specs.ForkExact.{ForkExact, StoredExact}
use Rattle.ancestry_exact.proofs.ForkExact.{forked_exact}
use Rattle.ancestry_exact.specs.CompressedExact.{side_at}
use Rattle.ancestry_exact.proofs.CompressedExact.{row_sound, compressed_exact}

module _ {t : Layer} (r : Numbered t) where
  -- the row that a path row is read off is sound
  side_on_row : {a x w : ℕ} → x < t.count → Branch (upper t) a x w → is_on_row t.count t.row (side_at a w) ≡ true
  unfolding is_on_row
  side_on_row {a} l (itself e) = rw (says_true (says_eqb a a) refl)
  side_on_row {a} {x} {w} l (child h e s) =
      let i : w < t.count = anc_in (compressed_tree r) l s in
      let j : parent t w < t.count = (stored_tree r).inside w i (λ z. h ((uppers r).root w i z)) in
      says_true (says_or (says_eqb w a) (says_row t.count t.row (parent t w))) (inr (row_sound r (parent t w) j))

  -- both sides meet at the stored nearest common ancestor
  join_exact : {x y a u v : ℕ} → x < t.count → y < t.count → Characteristic (upper t) x y a u v
      → ForkExact (parent t) x y (join t.count t.row (side_at a u) (side_at a v))
  unfolding join meeting branch_of stored_nca stored_to_x stored_to_y
  join_exact l m c = rw (side_on_row l c.toward_x, side_on_row m c.toward_y)
      (forked_exact (stored_tree r) l m (stored_characteristic (stored_tree r) (uppers r) l m c))

  -- the stored answer of any two rows of one tree; a row with itself is its own
  pub stored_exact : StoredExact t (stored_answer t)
  unfolding stored_from
  stored_exact f x y i j = elim (ℕ_discrete x y) [
    | yes e ↦ rw (says_true (says_eqb x y) e) record {
      fork = alone x;
      sound = refl;
      characteristic = record {
        nca = record { left = here; right = rw e here; deepest = λ b s _. s };
        toward_x = itself refl;
        toward_y = itself e;
      };
    }
    | no d ↦
        let s = compressed_exact r x y i j d in
        let n : p t x ≢ p t y = λ e. d (p_injective r i.in_use j.in_use (compressed_kindred r i j) e) in
        rw (says_false (says_eqb x y) d, says_false (says_eqb (p t x) (p t y)) n, s.left, s.right) (join_exact i.in_use j.in_use s.characteristic)
  ]
