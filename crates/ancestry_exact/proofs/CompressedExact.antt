-- What is proved of `CompressedExact`.
use Rattle.std.specs.Prelude.{◌≡◌, Bool, ◌≢◌, Some, ℕ, ◌-◌, ◌≤◌, ◌<◌, leb, ltb, eqb}
use Rattle.std.proofs.Math.Path.{refl}
use Rattle.std.proofs.Math.Bool.{true, false}
use Rattle.std.proofs.Common.{inl, inr, arith}
use Rattle.laws.specs.Test.{Says, holds, fails, says_true, says_false, says_leb, says_ltb, says_eqb, pick}
use Rattle.tree_laws.specs.Ancestor.{none}
use Rattle.span.specs.Rank.{rank_of}
use Rattle.layer.specs.Layer.{Layer, upper}
use Rattle.layer.specs.Spans.{p, reach}
use Rattle.layer.specs.Numbered.{Numbered}
use Rattle.layer.specs.Sound.{Link}
use Rattle.layer.specs.Checked.{IsRow, is_row}
use Rattle.layer.specs.CheckedLaws.{says_row}
use Rattle.layer_laws.specs.Step.{gap, distance, side_above, step_at_entry, step_past, step_hold, branch_of}
use Rattle.layer_laws.specs.Step.{Side as Place, side_at as place_at, compressed_side as compressed_place}
use Rattle.layer_laws.specs.Numbered.{InTree}
use Rattle.layer_laws.specs.CompressedStep.{Met}
use Rattle.layer_laws.proofs.CompressedStep.{tree_step}
use Rattle.layer_laws.proofs.SoundRows.{numbered_sound}
use Rattle.ancestry.specs.declared.compressed.Side.{Side}
use Rattle.ancestry.specs.Reading.{covers}
use Rattle.ancestry.specs.CompressedStep.{arrive, climb, at_entry, past_entry, past_reach, past_span, side_from, compressed_side}
use Rattle.ancestry.specs.StoredAnswer.{between}
use Rattle.ancestry_exact.specs.CompressedExact.{SidesExact, side_at}

-- the distance that the question takes is that of the numbering
pub between_gap : (a b : ℕ) → between a b ≡ gap a b
unfolding between
between_gap a b = go (says_leb a b)
  where
    go : {c : Bool} → Says (a ≤ b) c → pick c (b - a) (a - b) ≡ gap a b
    go (holds h) = omega arith
    go (fails h) = omega arith

-- a reach that is over the distance is one that is not within it
reach_pick : {A : Type 0} (d n : ℕ) (u v : A) → pick (leb n d) u v ≡ pick (ltb d n) v u
reach_pick d n u v = go (says_leb n d)
  where
    go : {c : Bool} → Says (n ≤ d) c → pick c u v ≡ pick (ltb d n) v u
    go (holds h) = rw (says_false (says_ltb d n) (λ l. omega arith))
    go (fails h) = rw (says_true (says_ltb d n) (omega arith))

-- a place of the numbering's step as a side
abbrev side_of : Place → Side
side_of m = side_at m.row (branch_of m)

module _ {t : Layer} (r : Numbered t) where
  -- every row in use is sound
  pub row_sound : (v : ℕ) → v < t.count → IsRow t.count t.row v
  row_sound v l = record { in_use = l; sound = numbered_sound r v l }

  pub row_passes : (v : ℕ) → v < t.count → is_row t.count t.row v ≡ true
  row_passes v l = says_true (says_row t.count t.row v) (row_sound v l)

  not_none : (v : ℕ) → v < t.count → eqb v none ≡ false
  not_none v l = says_false (says_eqb v none) (λ e. omega (arith, r.one.count))

  -- The step is the numbering's, and each row that it meets is sound

  climb_place : (stay : Bool) (m : Place) → m.row < t.count → (pick stay m (side_above t m.row)).row < t.count
      → climb t.count t.row stay (side_of m) ≡ Some (side_of (pick stay m (side_above t m.row)))
  unfolding climb arrive branch_of
  climb_place true m l h = refl
  climb_place false m l h = rw (not_none m.row l, row_passes (upper t m.row) h)

  entry_place : (e z : ℕ) → Link t.count e → (pick (eqb e none) (place_at z) (side_above t e)).row < t.count
      → past_entry t.count t.row e z ≡ Some (side_of (pick (eqb e none) (place_at z) (side_above t e)))
  unfolding past_entry at_entry climb arrive branch_of
  entry_place e z (inl i) h = rw (says_true (says_eqb e none) i)
  entry_place e z (inr i) h =
      let o : upper t e < t.count = rw (not_none e i) at h in
      rw (not_none e i, row_passes e i, row_passes (upper t e) o, not_none e i)

  past_place : (d : ℕ) (m : Place) → m.row < t.count → (step_past t d m).row < t.count → past_reach t.count t.row d (side_of m) ≡ Some (side_of (step_past t d m))
  unfolding step_past past_reach
  past_place d m l h =
      let e = reach_pick d (reach t m.row) (side_above t m.row) m in
      rw e (climb_place (ltb d (reach t m.row)) m l (rw e at h))

  hold_place : (n : ℕ) (m : Place) → m.row < t.count → (step_hold t n m).row < t.count → past_span t.count t.row n (side_of m) ≡ Some (side_of (step_hold t n m))
  unfolding step_hold past_span covers
  hold_place n m l h = climb_place (covers (t.row m.row) n) m l h

  side_place : {d i n z : ℕ} → Met t d i n z → side_from t.count t.row (t.entry z i) d n z ≡ Some (side_of (compressed_place t d i n z))
  unfolding compressed_place step_at_entry side_from
  side_place {d} {i} {n} {z} m = rw (
    entry_place (t.entry z i) z m.entry m.at_entry,
    past_place d (step_at_entry t i z) m.at_entry m.past,
    hold_place n (step_past t d (step_at_entry t i z)) m.past m.hold,
  )

  -- the step finds the compressed nearest common ancestor of two rows of one tree and both branches
  pub compressed_exact : {f : ℕ} (x y : ℕ) → InTree t f x → InTree t f y → x ≢ y → SidesExact t x y
      (compressed_side t (between (p t x) (p t y)) (p t y) x) (compressed_side t (between (p t x) (p t y)) (p t x) y)
  compressed_exact x y i j d =
      let f = tree_step r x y i j d in
      let n : ℕ = distance t x y in
      let k : ℕ = rank_of n in
      rw (between_gap (p t x) (p t y)) record {
        nca = (compressed_place t n k (p t y) x).row;
        to_x = branch_of (compressed_place t n k (p t y) x);
        to_y = branch_of (compressed_place t n k (p t x) y);
        left = side_place f.met_x;
        right = rw f.same (side_place f.met_y);
        characteristic = f.characteristic;
      }
