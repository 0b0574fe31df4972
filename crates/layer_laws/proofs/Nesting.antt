-- What is proved of `Nesting`.
use Rattle.std.specs.Prelude.{◌≡◌, refl, ◌⊎◌, ◌≢◌, ℕ, ◌*◌, ◌≤◌, ◌<◌}
use Rattle.std.proofs.Common.{sym, ◌∙◌, inl, inr, arith}
use Rattle.std.proofs.Math.Decide.{ℕ_discrete}
use Rattle.laws.specs.Fourth.{fourth, fourth_pos}
use Rattle.laws.specs.Ratio.{three_below, three_ratio}
use Rattle.tree_laws.specs.Ancestor.{none, Anc, here, there}
use Rattle.tree_laws.specs.AncestorLaws.{anc_in, no_loop, antisym, dec_anc}
use Rattle.tree_laws.specs.Nca.{Kindred, Nca, Branch, itself, child}
use Rattle.tree_laws.specs.NcaLaws.{kindred_swap, characteristic_exists}
use Rattle.layer.specs.Layer.{Layer, upper, set_size, start}
use Rattle.layer.specs.Spans.{p, q, end, reach, Apart}
use Rattle.layer.specs.Numbered.{Numbered}
use Rattle.layer_laws.proofs.Numbered.{compressed_tree}
use Rattle.layer_laws.specs.Step.{distance}
use Rattle.layer_laws.specs.Nesting.{Covers, Enclosed}

-- the span of x lies between p and q of a
pub record Between (t : Layer) (a x : ℕ) : Type 0 where
  pub low : p t a ≤ start t x
  pub high : end t x ≤ q t a

module _ {t : Layer} (r : Numbered t) where
  pub fourth_least : (x : ℕ) → x < t.count → 1 ≤ fourth (set_size t x)
  fourth_least x l = fourth_pos (set_size t x) (r.three x l).positive

  -- The span of a row lies between p and q of each row above it

  pub child_between : (x : ℕ) → x < t.count → upper t x ≢ none → Between t (upper t x) x
  child_between x l h =
      let u : upper t x < t.count = (compressed_tree r).inside x l h in
      record { low = (r.five.inside x l).low h; high = omega (arith, (r.five.inside x l).high h, r.five.room (upper t x) u) }

  pub anc_between : {a x : ℕ} → x < t.count → Anc (upper t) a x → (a ≡ x) ⊎ Between t a x
  anc_between l here = inl refl
  anc_between {a} {x} l (there h s) =
      let c = child_between x l h in
      elim (anc_between ((compressed_tree r).inside x l h) s) [
        | inl e ↦ inr (rw e c)
        | inr b ↦ inr record { low = omega arith; high = omega arith }
      ]

  pub anc_enclosed : {a x : ℕ} → x < t.count → Anc (upper t) a x → Enclosed t a x
  anc_enclosed {a} {x} l s = elim (anc_between l s) [
    | inl e ↦ rw e record { low = omega arith; high = omega arith }
    | inr b ↦ record { low = omega arith; high = omega arith }
  ]

  pub anc_covers : {a x : ℕ} → x < t.count → Anc (upper t) a x → Covers t a (p t x)
  anc_covers {a} {x} l s =
      let f = fourth_least x l in
      elim (anc_between l s) [
        | inl e ↦ rw e record { low = omega arith; high = omega arith }
        | inr b ↦ record { low = omega arith; high = omega arith }
      ]

  -- Rows of one tree of which neither is above the other have disjoint spans

  pub unrelated_apart : {a y : ℕ} → a < t.count → y < t.count → Kindred (upper t) a y → ¬ Anc (upper t) a y → ¬ Anc (upper t) y a → Apart t a y
  unrelated_apart {a} {y} l m k d e =
      let c = characteristic_exists (compressed_tree r) a y l m k in
      go c.are.nca c.are.toward_x c.are.toward_y
    where
      go : {c u v : ℕ} → Nca (upper t) a y c → Branch (upper t) c a u → Branch (upper t) c y v → Apart t a y
      go n (itself i) _ = absurd (d (rw i at n.right))
      go n (child _ _ _) (itself i) = absurd (e (rw i at n.left))
      go n (child {b = u} f i s) (child {b = v} g j z) =
          let un : u < t.count = anc_in (compressed_tree r) l s in
          let vn : v < t.count = anc_in (compressed_tree r) m z in
          let w : u ≢ v = λ o. no_loop (compressed_tree r) u un f (rw i (n.deepest u s (rw (← o) at z))) in
          let b = anc_enclosed l s in
          let c = anc_enclosed m z in
          elim (r.five.apart u un v vn w f (i ∙ sym j)) [ inl o ↦ inl (omega arith) | inr o ↦ inr (omega arith) ]

  -- a row that is not below a has its number outside a's span: at most at its start, or past its end
  pub outside : {a y : ℕ} → a < t.count → y < t.count → Kindred (upper t) a y → ¬ Anc (upper t) a y → (p t y ≤ start t a) ⊎ (end t a < p t y)
  outside {a} {y} l m k d =
      let f = fourth_least y m in
      elim (dec_anc (compressed_tree r) y a l) [
        | yes s ↦ elim (anc_between l s) [ inl e ↦ absurd (d (rw e here)) | inr b ↦ inl b.low ]
        | no e ↦ elim (unrelated_apart l m k d e) [ inl o ↦ inr (omega arith) | inr o ↦ inl (omega arith) ]
      ]

  -- Distances: far from a row outside, near within

  pub distance_far : {a x y : ℕ} → a < t.count → x < t.count → y < t.count → Kindred (upper t) a y → Anc (upper t) a x → ¬ Anc (upper t) a y
      → fourth (set_size t a) ≤ distance t x y
  distance_far k l m i s d =
      let c = anc_covers l s in
      elim (outside k m i d) [ inl o ↦ omega arith | inr o ↦ omega arith ]

  pub distance_near : {a x y : ℕ} → x < t.count → y < t.count → Anc (upper t) a x → Anc (upper t) a y → distance t x y < reach t a
  distance_near l m s z = omega (arith, anc_covers l s, anc_covers m z)

  -- p tells the rows apart, and which lies below which

  pub covers_anc : {a y : ℕ} → a < t.count → y < t.count → Kindred (upper t) a y → Covers t a (p t y) → Anc (upper t) a y
  covers_anc {a} {y} l m k c = elim (dec_anc (compressed_tree r) a y m) [
    | yes s ↦ s
    | no d ↦ absurd (elim (outside l m k d) [ inl o ↦ omega (arith, fourth_least a l) | inr o ↦ omega arith ])
  ]

  pub p_injective : {x y : ℕ} → x < t.count → y < t.count → Kindred (upper t) x y → p t x ≡ p t y → x ≡ y
  p_injective {x} {y} l m k e =
      let f = fourth_least x l in
      let g = fourth_least y m in
      antisym (compressed_tree r) m
      (covers_anc l m k record { low = omega arith; high = omega arith })
      (covers_anc m l (kindred_swap k) record { low = omega arith; high = omega arith })

  pub distance_pos : {x y : ℕ} → x < t.count → y < t.count → Kindred (upper t) x y → x ≢ y → 1 ≤ distance t x y
  distance_pos {x} {y} l m k d = elim (ℕ_discrete (p t x) (p t y)) [ yes e ↦ absurd (d (p_injective l m k e)) | no e ↦ omega arith ]

  -- Reaches grow upward

  module _ (x : ℕ) (l : x < t.count) (h : upper t x ≢ none) where
    pub reach_below : reach t x < fourth (set_size t (upper t x))
    reach_below =
        let u : upper t x < t.count = (compressed_tree r).inside x l h in
        three_below _ _ (set_size t x) (set_size t (upper t x)) (r.three x l).most (r.three (upper t x) u).growth (r.four x l h)

    pub reach_ratio : 10 * reach t x ≤ 7 * reach t (upper t x)
    reach_ratio =
        let u : upper t x < t.count = (compressed_tree r).inside x l h in
        three_ratio _ _ (set_size t x) (set_size t (upper t x)) (r.three x l).most (r.three (upper t x) u).growth (r.four x l h)

  pub reach_anc : {a x : ℕ} → x < t.count → Anc (upper t) a x → reach t x ≤ reach t a
  reach_anc l here = omega arith
  reach_anc {a} {x} l (there h s) = omega (arith, reach_anc ((compressed_tree r).inside x l h) s, reach_ratio x l h)
