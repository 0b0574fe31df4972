-- A step moves the place forward: past a field of three bytes or more, or not at all where the reading ends.
use Rattle.std.specs.Prelude.{◌≡◌, Bool, true, false, ◌&&◌, List, ℕ, ◌+◌, ◌-◌, ◌≤◌, ◌<◌, eqb, length, get_or}
use Rattle.std.proofs.Math.Path.{refl}
use Rattle.std.proofs.Common.{sym, ◌∙◌, true≢false, arith}
use Rattle.std.proofs.Math.Bool.{not}
use Rattle.std.proofs.Math.Decide.{dec_lt, ℕ_discrete}
use Rattle.laws.specs.Test.{pick, bit}
use Rattle.log_fields.specs.Outcome.{Outcome, end, refusal, field}
use Rattle.log_fields.specs.Bytes.{all_zero}
use Rattle.log_fields.specs.Field.{listed, fits, kind_of, values, whole_field as read_whole, body_at, next_at, field_at}
use Rattle.log_fields.specs.FieldLaws.{next_passes, field_end, field_stays, field_moves}
use Rattle.turn.specs.Asked.{Asked, call, nothing, asked_by}
use Rattle.turn.specs.Session.{Session, step_by, step_of, whole_field}

-- from the place of s on
pub record Moves (log : List ℕ) (s after : Session) : Type 0 where
  pub least : s.place ≤ after.place
  pub most : after.place ≤ length log
  pub on : after.on ≡ true → s.place + 3 ≤ after.place

module _ (scratch : List ℕ) (s : Session) where
  asked_place : (next : ℕ) (a : Asked) → (whole_field s next a).after.place ≡ next
  asked_place next (call q) = refl
  asked_place next nothing = refl

  -- what picks between outcomes of one next place has that place
  pick_place : (next : ℕ) (b : Bool) (o p : Outcome) → (step_by scratch s o).after.place ≡ next → (step_by scratch s p).after.place ≡ next
      → (step_by scratch s (pick b o p)).after.place ≡ next
  pick_place next true o p e f = e
  pick_place next false o p e f = f

  whole_place : (tag : ℕ) (body : List ℕ) (next : ℕ) → (step_by scratch s (read_whole tag body next)).after.place ≡ next
  unfolding read_whole
  whole_place tag body next =
      let whole = field (kind_of tag) (values tag body) next in
      let clean = pick (eqb tag 9 && not (all_zero body)) (refusal 9 next) whole in
      let fitting = pick (not (fits tag (length body))) (refusal 7 next) clean in
      pick_place next (not (listed tag)) (refusal 6 next) fitting refl
      (pick_place next (not (fits tag (length body))) (refusal 7 next) clean refl
      (pick_place next (eqb tag 9 && not (all_zero body)) (refusal 9 next) whole refl (asked_place next (asked_by scratch (kind_of tag) (values tag body)))))

module _ (log scratch : List ℕ) (s : Session) (within : s.place ≤ length log) where
  by_field : (o : Outcome) → field_at log s.place ≡ o → Moves log s (step_by scratch s o).after → Moves log s (step_of log scratch s).after
  unfolding step_of
  by_field o e m = rw e m

  at_whole : (next_at log s.place ≡ s.place → ⊥) → (o : Outcome) → (step_by scratch s o).after.place ≡ next_at log s.place → Moves log s (step_by scratch s o).after
  at_whole m o e =
      let p = next_passes log s.place m in
      record { least = omega (arith, e, p.0); most = omega (arith, e, p.1); on = λ _. omega (arith, e, p.0) }

  pub step_moves : Moves log s (step_of log scratch s).after
  step_moves =
      elim (dec_lt s.place (length log)) [
        | yes h ↦ elim (ℕ_discrete (next_at log s.place) s.place) [
          | yes e ↦ by_field (refusal 8 s.place) (field_stays log s.place h e) (stays refl refl)
          | no m ↦ by_field whole (field_moves log s.place h m) (at_whole m whole (whole_place scratch s (get_or log s.place 0) (body_at log s.place) (next_at log s.place)))
        ]
        | no h ↦ by_field end (field_end log s.place (omega arith)) (stays refl refl)
      ]
    where
      whole : Outcome
      whole = read_whole (get_or log s.place 0) (body_at log s.place) (next_at log s.place)

      stays : {after : Session} → after.place ≡ s.place → after.on ≡ false → Moves log s after
      stays e o = record { least = omega arith; most = omega arith; on = λ t. absurd (true≢false (sym t ∙ o)) }

-- what is left of the log, and whether the reading goes on
abbrev pub left : List ℕ → Session → ℕ
left log s = (length log - s.place) + bit s.on

-- it falls with each step
pub left_falls : (log : List ℕ) (s after : Session) → s.on ≡ true → Moves log s after → left log after < left log s
left_falls log s after on m = rw on (go after.on refl)
  where
    go : (b : Bool) → after.on ≡ b → (length log - after.place) + bit after.on < (length log - s.place) + 1
    go true e = rw e (omega (arith, m.on e, m.most))
    go false e = rw e (omega (arith, m.least, m.most))
