-- The compressed step by its tests.
use Rattle.std.specs.Prelude.{◌≡◌, Some, None, ◌≢◌, ℕ, ltb}
use Rattle.std.proofs.Math.Bool.{true, false}
use Rattle.laws.specs.Test.{says_true, says_false, says_eqb}
use Rattle.tree_laws.specs.Ancestor.{none}
use Rattle.span.specs.Numbers.{reach_of}
use Rattle.layer.specs.declared.row.Row.{Row}
use Rattle.layer.specs.Checked.{IsRow, is_row}
use Rattle.layer.specs.CheckedLaws.{says_row}
use Rattle.ancestry.specs.declared.compressed.Side.{Side}
use Rattle.ancestry.specs.Reading.{covers}
use Rattle.ancestry.specs.CompressedStep.{arrive, climb, at_entry, past_entry, past_reach, past_span, side_from}

module _ (n : ℕ) (row : ℕ → Row) where
  -- a row that is met is sound, or there is no side
  pub arrive_met : (v b : ℕ) → is_row n row v ≡ true → Some record { row = v; below = b } ≡ arrive n row v b
  unfolding arrive
  arrive_met v b e = rw e

  pub arrive_lost : (v b : ℕ) → is_row n row v ≡ false → None ≡ arrive n row v b
  unfolding arrive
  arrive_lost v b e = rw e

  -- past the reach and past the span
  module _ (s : Side) where
    module _ (d : ℕ) where
      pub reach_stay : ltb d (reach_of (row s.row).set_size) ≡ true → Some s ≡ past_reach n row d s
      unfolding past_reach climb
      reach_stay e = rw e

      pub reach_up : ltb d (reach_of (row s.row).set_size) ≡ false → arrive n row (row s.row).upper s.row ≡ past_reach n row d s
      unfolding past_reach climb
      reach_up e = rw e

    module _ (o : ℕ) where
      pub span_stay : covers (row s.row) o ≡ true → Some s ≡ past_span n row o s
      unfolding past_span climb
      span_stay e = rw e

      pub span_up : covers (row s.row) o ≡ false → arrive n row (row s.row).upper s.row ≡ past_span n row o s
      unfolding past_span climb
      span_up e = rw e

  module _ (e z : ℕ) where
    -- past the entry
    pub entry_none : e ≡ none → Some record { row = z; below = z } ≡ past_entry n row e z
    unfolding past_entry at_entry climb
    entry_none h = rw (says_true (says_eqb e none) h)

    pub entry_lost : e ≢ none → arrive n row e e ≡ None → None ≡ past_entry n row e z
    unfolding past_entry at_entry
    entry_lost h i = rw (says_false (says_eqb e none) h, i)

    pub entry_up : e ≢ none → IsRow n row e → arrive n row (row e).upper e ≡ past_entry n row e z
    unfolding past_entry at_entry climb
    entry_up h i = rw (says_false (says_eqb e none) h, ← arrive_met e e (says_true (says_row n row e) i))

    -- where a step is lost, so is the side
    pub side_lost : (d o : ℕ) → None ≡ past_entry n row e z → None ≡ side_from n row e d o z
    unfolding side_from
    side_lost d o h = rw (← h)

    module _ (d o : ℕ) {s : Side} (first : Some s ≡ past_entry n row e z) where
      pub side_lost_later : None ≡ past_reach n row d s → None ≡ side_from n row e d o z
      unfolding side_from
      side_lost_later h = rw (← first, ← h)

      pub side_found : {k : Side} → Some k ≡ past_reach n row d s → past_span n row o k ≡ side_from n row e d o z
      unfolding side_from
      side_found h = rw (← first, ← h)
