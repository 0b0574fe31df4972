-- What is proved of `CompressedStep`.
use Rattle.std.specs.Prelude.{◌≡◌, Bool, ◌≢◌, eqb}
use Rattle.std.proofs.Math.Path.{refl}
use Rattle.std.proofs.Common.{inl, inr, arith}
use Prim.Native.Nat.{ℕ, suc, ◌≤◌, ◌<◌}
use Rattle.std.proofs.Math.Decide.{dec_le}
use Rattle.laws.specs.Test.{Says, holds, fails, says_false, says_map, says_and, says_leb, says_ltb, says_eqb, pick}
use Rattle.tree_laws.specs.Ancestor.{none, Anc, here, there}
use Rattle.tree_laws.specs.AncestorLaws.{trans, cases, linear, row_some, anc_in, no_loop, dec_anc}
use Rattle.tree_laws.specs.Nca.{Kindred, Branch, itself, child}
use Rattle.tree_laws.specs.NcaLaws.{kindred_swap, kindred_trans, anc_kindred, nca_swap, nca_unique}
use Rattle.span.specs.Constants.{limit}
use Rattle.span.specs.Power.{power}
use Rattle.span.specs.PowerLaws.{power_below, below_power, power_up}
use Rattle.span.specs.Rank.{rank_of}
use Rattle.span.specs.RankLaws.{rank_spec, rank_small, limit_listed}
use Rattle.layer.specs.Layout.{entry_stride}
use Rattle.layer.specs.Layer.{Layer, upper}
use Rattle.layer.specs.Spans.{p, q, reach}
use Rattle.layer.specs.Entries.{Entry, absent, highest}
use Rattle.layer.specs.Numbered.{Numbered}
use Rattle.layer.specs.Sound.{Link}
use Rattle.layer_laws.specs.Numbered.{InTree}
use Rattle.layer_laws.proofs.Numbered.{compressed_tree, compressed_kindred}
use Rattle.layer_laws.specs.Step.{distance, covers, Side, side_at, side_above, step_at_entry, step_past, step_hold, compressed_side, branch_of}
use Rattle.layer_laws.specs.Nesting.{Covers}
use Rattle.layer_laws.proofs.Nesting.{anc_covers, covers_anc, distance_far, distance_near, distance_pos, reach_below, reach_ratio, reach_anc}
use Rattle.layer_laws.proofs.Bounds.{distance_small}
use Rattle.layer_laws.specs.CompressedStep.{Ends, Found, Met, Stands}

-- Laws

pub says_covers : (t : Layer) (a n : ℕ) → Says (Covers t a n) (covers t a n)
says_covers t a n = says_map (λ c. record { low = c.0; high = c.1 }) (λ c. (c.low, c.high)) (says_and (says_leb (p t a) n) (λ _. says_ltb n (q t a)))

module _ {t : Layer} (r : Numbered t) where
  above_branch : {x a : ℕ} → x < t.count → Anc (upper t) a x → upper t a ≢ none → Branch (upper t) (upper t a) x (branch_of (side_above t a))
  unfolding branch_of
  above_branch {x} {a} l s h = rw (says_false (says_eqb a none) (row_some (compressed_tree r) (anc_in (compressed_tree r) l s) refl)) (child h refl s)

  -- one row up: past a row of less reach to a row of enough
  above_stands : {n x a : ℕ} → x < t.count → Anc (upper t) a x → upper t a ≢ none → reach t a < n → n ≤ reach t (upper t a)
      → Stands t n x (side_above t a)
  above_stands {n} {x} {a} l s h small enough = record {
    first = record {
      over = trans (there h here) s;
      reaches = enough;
      first = λ b z w. elim (linear s z) [
        | inl g ↦ absurd (omega (arith, reach_anc r (anc_in (compressed_tree r) l z) g))
        | inr g ↦ elim (cases g) [ inl e ↦ absurd (omega (arith, rw e at w)) | inr k ↦ k.1 ]
      ];
    };
    branch = above_branch l s h;
  }

  module _ {x y : ℕ} (l : x < t.count) (m : y < t.count) (k : Kindred (upper t) x y) (d : ℕ) (e : d ≡ distance t x y) where
    -- a row over x and not over y lies below a row of their tree
    upper_some : {a : ℕ} → Anc (upper t) a x → ¬ Anc (upper t) a y → upper t a ≢ none
    upper_some s n = elim (linear s k.left) [
      | inl g ↦ absurd (n (trans g k.right))
      | inr g ↦ elim (cases g) [ inl z ↦ absurd (n (rw z at k.right)) | inr z ↦ z.0 ]
    ]

    -- so does a row over x whose reach is within the distance
    upper_near : {a : ℕ} → Anc (upper t) a x → reach t a ≤ d → upper t a ≢ none
    upper_near s h = upper_some s (λ z. omega (arith, distance_near r l m s z))

    -- the row of enough reach, or the row above it, is the nearest common ancestor
    hold_ends : {s : Side} → Stands t (suc d) x s → Ends t x y (step_hold t (p t y) s)
    unfolding step_hold
    hold_ends {s} f = go (says_covers t s.row (p t y))
      where
        a : ℕ
        a = s.row

        o : Anc (upper t) a x
        o = f.first.over

        j : a < t.count
        j = anc_in (compressed_tree r) l o

        deepest : (b : ℕ) → Anc (upper t) b x → Anc (upper t) b y → Anc (upper t) b a
        deepest b z w = f.first.first b z (omega (arith, distance_near r l m z w))

        go : {c : Bool} → Says (Covers t a (p t y)) c → Ends t x y (pick c s (side_above t a))
        go (holds c) = record {
          nca = record { left = o; right = covers_anc r j m (kindred_trans (anc_kindred o) k) c; deepest = deepest };
          branch = f.branch;
        }
        go (fails c) =
            let n : ¬ Anc (upper t) a y = λ z. c (anc_covers r m z) in
            let h : upper t a ≢ none = upper_some o n in
            let u : upper t a < t.count = (compressed_tree r).inside a j h in
            let v : Anc (upper t) (upper t a) x = trans (there h here) o in
            record {
              nca = record {
                left = v;
                right = elim (dec_anc (compressed_tree r) (upper t a) y m) [
                  | yes z ↦ z
                  | no z ↦ absurd (omega (arith, distance_far r u l m (kindred_trans (anc_kindred v) k) v z, reach_below r a j h, f.first.reaches))
                ];
                deepest = λ b z w. elim (cases (deepest b z w)) [ inl q ↦ absurd (n (rw q at w)) | inr q ↦ q.1 ];
              };
              branch = above_branch l o h;
            }

    module _ (i : ℕ) (b : i < entry_stride) (reached : power i ≤ d) (next : d < power (suc i)) where
      entry_stands : Stands t (power i) x (step_at_entry t i x)
      unfolding step_at_entry branch_of
      entry_stands = go (r.six x l i b)
        where
          go : {e : ℕ} → Entry t i x e → Stands t (power i) x (pick (eqb e none) (side_at x) (side_above t e))
          go (absent f) = record {
            first = record {
              over = here;
              reaches = elim (dec_le (power i) (reach t x)) [ yes z ↦ z | no z ↦ absurd (f x here (power_below i (reach t x) (omega arith))) ];
              first = λ b z _. z;
            };
            branch = itself refl;
          }
          go (highest {b = a} s h f) =
              let j : a < t.count = anc_in (compressed_tree r) l s in
              let z : reach t a < power i = below_power i (reach t a) h in
              let o : upper t a ≢ none = upper_near s (omega arith) in
              rw (says_false (says_eqb a none) (row_some (compressed_tree r) j refl)) (above_stands l s o z (elim (dec_le (power i) (reach t (upper t a))) [
                | yes w ↦ w
                | no w ↦ absurd (no_loop (compressed_tree r) a j o
                    (f (upper t a) (trans (there o here) s) (power_below i (reach t (upper t a)) (omega arith))))
              ]))

      past_stands : {s : Side} → Stands t (power i) x s → Stands t (suc d) x (step_past t d s)
      unfolding step_past
      past_stands {s} f = go (says_leb (reach t s.row) d)
        where
          go : {c : Bool} → Says (reach t s.row ≤ d) c → Stands t (suc d) x (pick c (side_above t s.row) s)
          go (holds z) =
              let h : upper t s.row ≢ none = upper_near f.first.over z in
              let g = reach_ratio r s.row (anc_in (compressed_tree r) l f.first.over) h in
              above_stands l f.first.over h (omega arith)
              (omega (arith, power_up i (reach t s.row) (reach t (upper t s.row)) f.first.reaches g))
          go (fails z) = record {
            first = record { over = f.first.over; reaches = omega arith; first = λ b w g. f.first.first b w (omega arith) };
            branch = f.branch;
          }

      side_ends : Ends t x y (compressed_side t d i (p t y) x)
      unfolding compressed_side
      side_ends = hold_ends (past_stands entry_stands)

      side_met : Met t d i (p t y) x
      side_met =
          record {
            entry = go (r.six x l i b);
            at_entry = anc_in (compressed_tree r) l entry_stands.first.over;
            past = anc_in (compressed_tree r) l (past_stands entry_stands).first.over;
            hold = anc_in (compressed_tree r) l side_ends.nca.left;
          }
        where
          go : {e : ℕ} → Entry t i x e → Link t.count e
          go (absent _) = inl refl
          go (highest s _ _) = inr (anc_in (compressed_tree r) l s)

  -- the step finds the characteristic ancestors of two rows of one tree
  pub compressed_step : (x y : ℕ) → x < t.count → y < t.count → x ≢ y → Kindred (upper t) x y → Found t x y (distance t x y) (rank_of (distance t x y))
  compressed_step x y l m n k =
      let d : ℕ = distance t x y in
      let w : d ≤ limit = distance_small r x y l m in
      let o : 1 ≤ d = distance_pos r l m k n in
      let g = rank_spec d o (limit_listed w) in
      let b : rank_of d < entry_stride = omega (arith, rank_small d w) in
      let e : d ≡ distance t y x = omega arith in
      let f = side_ends l m k d refl (rank_of d) b g.reached g.next in
      let h = side_ends m l (kindred_swap k) d e (rank_of d) b g.reached g.next in
      let s = nca_unique (compressed_tree r) l f.nca (nca_swap h.nca) in
      record {
        positive = o;
        within = w;
        index = b;
        met_x = side_met l m k d refl (rank_of d) b g.reached g.next;
        met_y = side_met m l (kindred_swap k) d e (rank_of d) b g.reached g.next;
        same = s;
        characteristic = record { nca = f.nca; toward_x = f.branch; toward_y = rw s h.branch };
      }

-- of any two rows of one tree
pub tree_step : {t : Layer} → Numbered t → {f : ℕ} (x y : ℕ) → InTree t f x → InTree t f y → x ≢ y → Found t x y (distance t x y) (rank_of (distance t x y))
tree_step r x y i j n = compressed_step r x y i.in_use j.in_use n (compressed_kindred r i j)
