-- Chains of the compressed tree are short: sizes grow by more than 12/7 from each row to its compressed parent.
use Rattle.std.specs.Prelude.{◌≡◌, Bool, List, [], ◌∷◌, ◌≢◌, ℕ, suc, ◌+◌, ◌≤◌, ◌<◌, length}
use Rattle.std.proofs.Math.Path.{refl}
use Rattle.std.proofs.Math.Logic.{inl, inr}
use native.Mathlib.Omega.{arith}
use Rattle.std.proofs.Math.Dec.{eqb}
use Rattle.laws.specs.Test.{Says, holds, fails, says_true, says_false, says_eqb, bit}
use Rattle.laws.specs.Sum.{sum_eq, sum_add, count_to, count_one}
use Rattle.laws.specs.Chain.{Chain, chain_19}
use Rattle.laws.specs.Ratio.{size_ratio}
use Rattle.tree_laws.specs.Ancestor.{none, Anc, here, there, Forest, is_ancestor}
use Rattle.tree_laws.specs.AncestorLaws.{cases, climb, no_loop, says_is_ancestor}
use Rattle.tree_laws.specs.SizeDepth.{size_le}
use Rattle.layer.specs.Layer.{Layer, depth, upper, size, set_size}
use Rattle.layer.specs.Numbered.{row_limit, Numbered}
use Rattle.join_laws.proofs.Trees.{own_trees, uppers}

-- how many rows lie at or above x
unfoldable pub above : (ℕ → ℕ) → (ℕ → ℕ) → ℕ → ℕ → ℕ
above up rank n x = count_to (λ a. is_ancestor up rank a x) n

module _ {up rank : ℕ → ℕ} {n : ℕ} (t : Forest up rank n) where
  pub above_root : (x : ℕ) → x < n → up x ≡ none → above up rank n x ≡ 1
  unfolding above
  above_root x l e = count_one (λ a. is_ancestor up rank a x) n x l (says_true (says_is_ancestor t x x l) here)
      (λ a _ d. says_false (says_is_ancestor t a x l) (λ p. elim (cases p) [ inl z ↦ d z | inr s ↦ s.0 e ]))

  pub above_next : (x : ℕ) → x < n → up x ≢ none → above up rank n x ≡ 1 + above up rank n (up x)
  unfolding above
  above_next x l h = omega (
    arith,
    sum_eq (λ a. bit (is_ancestor up rank a x)) (λ a. bit (eqb a x) + bit (is_ancestor up rank a (up x))) n
        (λ a k. one a (says_is_ancestor t a x l) (says_eqb a x) (says_is_ancestor t a (up x) (t.inside x l h))),
    sum_add (λ a. bit (eqb a x)) (λ a. bit (is_ancestor up rank a (up x))) n,
    count_one (λ a. eqb a x) n x l (says_true (says_eqb x x) refl) (λ a _ d. says_false (says_eqb a x) d),
  )
    where
      one : (a : ℕ) {b c e : Bool} → Says (Anc up a x) b → Says (a ≡ x) c → Says (Anc up a (up x)) e → bit b ≡ bit c + bit e
      one a (holds _) (holds z) (holds q) = absurd (no_loop t x l h (rw z at q))
      one a (holds _) (holds _) (fails _) = refl
      one a (holds _) (fails _) (holds _) = refl
      one a (holds p) (fails d) (fails f) = absurd (elim (cases p) [ inl z ↦ d z | inr s ↦ f s.1 ])
      one a (fails d) (holds z) _ = absurd (d (rw z here))
      one a (fails d) (fails _) (holds q) = absurd (d (there h q))
      one a (fails _) (fails _) (fails _) = refl

-- the sizes above x, each more than 12/7 of the one before
record Sizes (t : Layer) (x : ℕ) : Type 0 where
  list : List ℕ
  grow : Chain row_limit (size t x) list
  counts : above (upper t) (depth t) t.count x ≡ suc (length list)

module _ {t : Layer} (r : Numbered t) where
  pub size_most : (x : ℕ) → x < t.count → size t x ≤ t.count
  size_most x l = omega (arith, r.two.size x l, size_le (upper t) (depth t) t.count x)

  sizes_above : (x : ℕ) → x < t.count → Sizes t x
  sizes_above = climb f (Sizes t)
      (λ x l e. record { list = []; grow = within x l; counts = above_root f x l e })
      (λ x l h s. let u : upper t x < t.count = f.inside x l h in record {
        list = size t (upper t x) ∷ s.list;
        grow = (
          size_ratio (size t x) (size t (upper t x)) (set_size t x) (set_size t (upper t x)) (r.three x l).most
              (r.three (upper t x) u).growth (r.four x l h),
          within x l,
          s.grow,
        );
        counts = omega (arith, above_next f x l h, s.counts);
      })
    where
      f : Forest (upper t) (depth t) t.count
      f = uppers (own_trees r)

      within : (x : ℕ) → x < t.count → size t x ≤ row_limit
      within x l = omega (arith, size_most x l, r.one.count)

  -- a row with another below it has at most 19 rows at or above it
  pub chain_short : (x : ℕ) → x < t.count → 2 ≤ size t x → above (upper t) (depth t) t.count x ≤ 19
  chain_short x l g = let s = sizes_above x l in omega (arith, s.counts, chain_19 (size t x) s.list g s.grow)
