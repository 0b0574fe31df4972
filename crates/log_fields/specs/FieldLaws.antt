-- The next place says where a field is cut short, what its body is and what its outcome is.
use Rattle.std.specs.Prelude.{◌≡◌, List, [], true, false, ℕ, ◌+◌, ◌-◌, ◌≤◌, ◌<◌, length, get_or, take, drop}
use Rattle.std.proofs.Math.Logic.{inl, inr}
use Rattle.std.proofs.Math.Decide.{dec_lt}
use Rattle.std.proofs.Math.Nat.{add-sub_cancel_left}
use native.Mathlib.Omega.{arith}
use Rattle.std.proofs.Common.{eq-eqb, ne_eqb}
use Rattle.laws.specs.Test.{Says, says_ltb, says_or, says_map, says_true, says_false}
use Rattle.log_fields.specs.Outcome.{end, refusal}
use Rattle.log_fields.specs.Field.{left, length_at, cut_short, next_at, body_at, whole_field, field_at}
use Rattle.log_fields.specs.Body.{body_start}

module _ (log : List ℕ) (place : ℕ) where
  -- a field is cut short when it reaches past the end
  says_cut : Says (length log < place + 3 + length_at log place) (cut_short log place)
  unfolding cut_short
  says_cut =
      says_map
      (λ s. elim s [ inl h ↦ omega arith | inr h ↦ omega arith ])
      (λ h. elim (dec_lt (left log place) 3) [ yes s ↦ inl s | no s ↦ inr (omega arith) ])
      (says_or (says_ltb (left log place) 3) (says_ltb (left log place - 3) (length_at log place)))

  pub next_cut : length log < place + 3 + length_at log place → next_at log place ≡ place
  unfolding next_at
  next_cut h = rw (says_true says_cut h)

  pub next_whole : place + 3 + length_at log place ≤ length log → next_at log place ≡ place + 3 + length_at log place
  unfolding next_at
  next_whole h = rw (says_false says_cut (λ l. omega arith))

  -- only a whole field is passed
  next_moves : (next_at log place ≡ place → ⊥) → place + 3 + length_at log place ≤ length log
  next_moves m = elim (dec_lt (length log) (place + 3 + length_at log place)) [ yes h ↦ absurd (m (next_cut h)) | no h ↦ omega arith ]

  pub next_passes : (next_at log place ≡ place → ⊥) → (place + 3 ≤ next_at log place) × (next_at log place ≤ length log)
  next_passes m = (omega (arith, next_whole (next_moves m)), omega (arith, next_whole (next_moves m), next_moves m))

  -- so the next place tells whether the field is cut short
  cut_stays : next_at log place ≡ place → cut_short log place ≡ true
  cut_stays e =
      elim (dec_lt (length log) (place + 3 + length_at log place)) [
        | yes h ↦ says_true says_cut h
        | no h ↦ absurd (omega (arith, next_whole (omega arith)))
      ]

  cut_moves : (next_at log place ≡ place → ⊥) → cut_short log place ≡ false
  cut_moves m = says_false says_cut (λ l. omega (arith, next_moves m))

  pub body_stays : next_at log place ≡ place → body_at log place ≡ []
  unfolding body_at
  body_stays e = rw (cut_stays e)

  pub body_moves : (next_at log place ≡ place → ⊥) → body_at log place ≡ take (next_at log place - (place + 3)) (drop (place + 3) log)
  unfolding body_at
  body_moves m = rw (cut_moves m, next_whole (next_moves m), add-sub_cancel_left (place + 3) (length_at log place))

  pub start_stays : next_at log place ≡ place → body_start log place ≡ 0
  unfolding body_start
  start_stays e = rw (cut_stays e)

  pub start_moves : (next_at log place ≡ place → ⊥) → body_start log place ≡ place + 3
  unfolding body_start
  start_moves m = rw (cut_moves m)

  pub field_end : length log ≤ place → field_at log place ≡ end
  unfolding field_at
  field_end h = rw (eq-eqb (left log place) 0 (omega arith))

  pub field_stays : place < length log → next_at log place ≡ place → field_at log place ≡ refusal 8 place
  unfolding field_at
  field_stays h e = rw (ne_eqb (left log place) 0 (λ z. omega arith), cut_stays e)

  pub field_moves : place < length log → (next_at log place ≡ place → ⊥) →
      field_at log place ≡ whole_field (get_or log place 0) (body_at log place) (next_at log place)
  unfolding field_at
  field_moves h m = rw (ne_eqb (left log place) 0 (λ z. omega arith), cut_moves m)
