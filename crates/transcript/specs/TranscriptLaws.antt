-- The loop over the fields: what was printed so far and what the rest will print make the whole.
use Rattle.std.specs.Prelude.{◌≡◌, true, false, List, ◌++◌, length, take}
use Rattle.std.proofs.Math.Path.{refl}
use Rattle.std.proofs.Common.{sym, ap, ◌∙◌, append_assoc, append-nil}
use Prim.Native.Nat.{ℕ, zero, suc, ◌+◌, ◌*◌, ◌≤◌, ◌<◌}
use native.Mathlib.Omega.{arith}
use Rattle.table.specs.Parts.{Parts}
use Rattle.turn.specs.declared.Reading.{Reading}
use Rattle.turn.specs.declared.Turn.{Turn}
use Rattle.turn.specs.Bounds.{Small, Grows}
use Rattle.turn.specs.Session.{Session, Step, step_of, session_of, written, turn_of}
use Rattle.transcript.specs.Bounds.{log_limit}
use Rattle.transcript.specs.PlaceLaws.{Moves, step_moves, left, left_falls}
use Rattle.transcript.specs.Transcript.{Reached, stopped, before, read_from, read_log}

module _ (log scratch : List ℕ) where
  pub read_on : (n : ℕ) (s : Session) → s.on ≡ true
      → read_from (suc n) log scratch s ≡ before (step_of log scratch s).text (read_from n log scratch (step_of log scratch s).after)
  unfolding read_from
  read_on n s e = rw e

  pub read_off : (n : ℕ) (s : Session) → s.on ≡ false → read_from n log scratch s ≡ stopped s
  unfolding read_from
  read_off zero s e = refl
  read_off (suc n) s e = rw e

  -- the numbers while the reading goes on: each field takes three bytes, prints 96 at most and renumbers 65,535 rows at most
  pub record Within (s : Session) (filled : ℕ) : Type 0 where
    pub ordinal : s.ordinal ≤ s.place + 1
    pub total : s.total ≤ 65535 * s.place
    pub bytes : filled ≤ 32 * s.place + 96

  -- from the session s₀ and the text in out₀ the loop has come to s and out
  pub record Come (s₀ : Session) (out₀ : List ℕ) (filled₀ : ℕ) (s : Session) (out : List ℕ) (filled : ℕ) : Type 0 where
    pub fuel : ℕ
    pub text : take filled₀ out₀ ++ (read_log log scratch s₀).text ≡ take filled out ++ (read_from fuel log scratch s).text
    pub last : (read_log log scratch s₀).last ≡ (read_from fuel log scratch s).last
    pub same : length out ≡ length out₀
    pub place : s.place ≤ length log
    pub enough : s.on ≡ true → length log < s.place + fuel
    pub within : s.on ≡ true → Within s filled
    pub room : filled ≤ 32 * length log + 192

  pub come_first : (s : Session) (out : List ℕ) (filled : ℕ) → s.place ≡ 0 → s.ordinal ≡ 1 → s.total ≡ 0 → filled ≤ 96 → Come s out filled s out filled
  unfolding read_log
  come_first s out filled p o t f =
      record {
        fuel = suc (length log);
        text = refl;
        last = refl;
        same = refl;
        place = omega arith;
        enough = λ _. omega arith;
        within = λ _. record { ordinal = omega arith; total = omega arith; bytes = omega arith };
        room = omega arith;
      }

  module _ (s₀ : Session) (out₀ : List ℕ) (filled₀ : ℕ) (s : Session) (out : List ℕ) (filled : ℕ) where
    pub come_last : s.on ≡ false → Come s₀ out₀ filled₀ s out filled
        → (take filled out ≡ take filled₀ out₀ ++ (read_log log scratch s₀).text) × (s ≡ (read_log log scratch s₀).last)
    come_last off come =
        let e = read_off come.fuel s off in (
          sym (come.text ∙ ap (λ (r : Reached). take filled out ++ r.text) e ∙ append-nil (take filled out)),
          sym (come.last ∙ ap (λ (r : Reached). r.last) e),
        )

    -- a step's numbers and bytes, as the code adds them
    pub record Added (t : Step) (after : List ℕ) (filled' : ℕ) : Type 0 where
      pub step : t ≡ step_of log scratch s
      pub text : take filled' after ≡ take filled out ++ t.text
      pub same : length after ≡ length out
      pub bytes : filled' ≤ filled + 96
      pub ordinal : t.after.ordinal ≤ s.ordinal + 1
      pub total : t.after.total ≤ s.total + 65535

    pub come_more : s.on ≡ true → Come s₀ out₀ filled₀ s out filled → (t : Step) (after : List ℕ) (filled' : ℕ) → Added t after filled'
        → Come s₀ out₀ filled₀ t.after after filled'
    come_more on come t after filled' a = by_fuel come.fuel (come.enough on) come.text come.last
      where
        moves : Moves log s t.after
        moves = rw a.step (step_moves log scratch s come.place)

        inside : Within s filled
        inside = come.within on

        by_fuel : (fuel : ℕ) → length log < s.place + fuel
            → take filled₀ out₀ ++ (read_log log scratch s₀).text ≡ take filled out ++ (read_from fuel log scratch s).text
            → (read_log log scratch s₀).last ≡ (read_from fuel log scratch s).last → Come s₀ out₀ filled₀ t.after after filled'
        by_fuel zero enough text last = let p = come.place in absurd (omega arith)
        by_fuel (suc n) enough text last =
            let e = read_on n s on in
            let m = moves in
            let i = inside in
            let place = come.place in
            record {
              fuel = n;
              text = text
                  ∙ ap (λ (r : Reached). take filled out ++ r.text) e
                  ∙ sym (append_assoc (take filled out) (step_of log scratch s).text (read_from n log scratch (step_of log scratch s).after).text)
                  ∙ rw (a.text, a.step) refl;
              last = last ∙ ap (λ (r : Reached). r.last) e ∙ rw a.step refl;
              same = a.same ∙ come.same;
              place = m.most;
              enough = λ o. omega (arith, m.on o);
              within = λ o. record {
                ordinal = omega (arith, m.on o, i.ordinal, a.ordinal);
                total = omega (arith, m.on o, i.total, a.total);
                bytes = omega (arith, m.on o, i.bytes, a.bytes);
              };
              room = omega (arith, i.bytes, a.bytes, place);
            }

  -- while the reading goes on there is room for one field more
  pub come_small : {s₀ : Session} {out₀ : List ℕ} {filled₀ : ℕ} {t : Parts} {w : List ℕ} (r : Reading) (out : List ℕ) (filled : ℕ) → r.on ≡ true → length log ≤ log_limit
      → Come s₀ out₀ filled₀ (session_of t w r) out filled → Small r
  come_small r out filled on h come =
      let i = come.within on in
      let p = come.place in
      record { ordinal = omega (arith, i.ordinal); total = omega (arith, i.total) }

  -- one turn of the loop, as the code takes it
  module _ (t u : Parts) (w w' : List ℕ) (r : Reading) (turn : Turn) (on : r.on ≡ true) (step : turn_of u w' turn ≡ step_of log scratch (session_of t w r)) where
    pub come_turn : {s₀ : Session} {out₀ : List ℕ} {filled₀ : ℕ} (out : List ℕ) (filled : ℕ) (after : List ℕ) (filled' : ℕ)
        → Come s₀ out₀ filled₀ (session_of t w r) out filled → Grows r turn
        → (take filled' after ≡ take filled out ++ written turn.text) × (filled' ≡ filled + turn.text.len) → length after ≡ length out
        → Come s₀ out₀ filled₀ (session_of u w' turn.reading) after filled'
    come_turn {s₀} {out₀} {filled₀} out filled after filled' come g put same =
        let m = g.text.most in
        come_more s₀ out₀ filled₀ (session_of t w r) out filled on come (turn_of u w' turn) after filled'
        (record { step = step; text = put.0; same = same; bytes = omega (arith, put.1); ordinal = g.ordinal; total = g.total })

    pub turn_falls : r.place ≤ length log → left log (session_of u w' turn.reading) < left log (session_of t w r)
    turn_falls h =
        left_falls log (session_of t w r) (session_of u w' turn.reading) on
        (let e : session_of u w' turn.reading ≡ (step_of log scratch (session_of t w r)).after = ap (λ (x : Step). x.after) step in
        rw e (step_moves log scratch (session_of t w r) h))
