-- What is proved of `RaiseExact`.
use Rattle.std.specs.Prelude.{◌≡◌, refl, ◌≢◌, List, ℕ, zero, suc, ◌+◌, ◌≤◌, ◌<◌}
use Rattle.std.proofs.Common.{ap, ◌∙◌, inl, inr, arith}
use Rattle.std.proofs.Math.Decide.{ℕ_discrete}
use Rattle.tree_laws.specs.Ancestor.{none, Anc, here, there, Forest}
use Rattle.tree_laws.specs.AncestorLaws.{cases, row_some, no_loop}
use Rattle.layer.specs.Layout.{field_stride, upper_place, size_place}
use Rattle.layer.specs.Row.{field_at}
use Rattle.renumber_laws.specs.Column.{put}
use Rattle.renumber_laws.proofs.Column.{put_same, put_other}
use Rattle.counts.specs.Count.{one_more}
use Rattle.join.specs.Chain.{raised_at, raised}
use Rattle.join.specs.ChainLaws.{raise_stop, raise_on}
use Rattle.renumber_exact.specs.Columns.{Holds, holds_set, set_same, set_other}
use Rattle.renumber_exact.specs.SizeWalkExact.{more_one}
use Rattle.join_exact.specs.RaiseExact.{Reaches, ended, going}

-- fields g are fields f with one more in the sizes of u and all rows above it
pub record Raised (up : ℕ → ℕ) (c : ℕ) (f : List ℕ) (u : ℕ) (g : List ℕ) : Type 0 where
  pub holds : Holds field_stride c g
  pub rest : (y k : ℕ) → k < field_stride → k ≢ size_place → field_at g y k ≡ field_at f y k
  pub chain : u ≢ none → (y : ℕ) → Anc up y u → field_at g y size_place ≡ field_at f y size_place + 1
  pub off : (y : ℕ) → (u ≢ none → ¬ Anc up y u) → field_at g y size_place ≡ field_at f y size_place

-- one row
raise_row : {c : ℕ} {f : List ℕ} → Holds field_stride c f → (u : ℕ) → u < c → field_at f u size_place < 65535 → (y : ℕ)
    → field_at (raised_at f u) y size_place ≡ put (λ z. field_at f z size_place) u (field_at f u size_place + 1) y
unfolding raised_at
raise_row {f = f} h u l s y = rw (more_one (field_at f u size_place) s)
    (set_same h u size_place (field_at f u size_place + 1) l (omega arith) (λ z. field_at f z size_place) y refl)

raise_rest : {c : ℕ} {f : List ℕ} → Holds field_stride c f → (u y k : ℕ) → k < field_stride → k ≢ size_place → field_at (raised_at f u) y k ≡ field_at f y k
unfolding raised_at
raise_rest {f = f} h u y k a d = set_other h u size_place (one_more (field_at f u size_place)) (omega arith) y k a d

raise_holds : {c : ℕ} {f : List ℕ} → Holds field_stride c f → (u : ℕ) → Holds field_stride c (raised_at f u)
unfolding raised_at
raise_holds h u = holds_set h _ _

raised_none : (up : ℕ → ℕ) {c : ℕ} {f : List ℕ} → Holds field_stride c f → (u : ℕ) → u ≡ none → Raised up c f u f
raised_none up h u e = record { holds = h; rest = λ y k a d. refl; chain = λ d. absurd (d e); off = λ y o. refl }

module _ {up rank : ℕ → ℕ} {n c : ℕ} {In : ℕ → Type 0} (t : Forest up rank n) (room : n ≤ c) (in_use : (y : ℕ) → In y → y < n)
    (closed : (y : ℕ) → In y → up y ≢ none → In (up y)) where
  reaches_up : (fuel u : ℕ) → In u → rank u < suc fuel → Reaches rank In fuel (up u)
  reaches_up fuel u i r = elim (ℕ_discrete (up u) none) [
    | yes e ↦ ended e
    | no d ↦ going (closed u i d) (omega (arith, t.falls u (in_use u i) d))
  ]

  -- so much fuel raises each chain that it reaches the end of
  abbrev Raises : ℕ → Type 0
  Raises fuel = (f : List ℕ) (u : ℕ) → Holds field_stride c f → Reaches rank In fuel u → ((y : ℕ) → In y → field_at f y upper_place ≡ up y)
      → ((y : ℕ) → u ≢ none → Anc up y u → field_at f y size_place < 65535) → Raised up c f u (raised fuel f u)

  raise_step : (fuel : ℕ) → Raises fuel → Raises (suc fuel)
  raise_step fuel more f u h (ended e) p q = rw (raise_stop f u (suc fuel) e) (raised_none up h u e)
  raise_step fuel more f u h (going i r) p q =
      let e : field_at (raised_at f u) u upper_place ≡ up u = raise_rest h u u upper_place (omega arith) (λ e. omega arith) ∙ p u i in
      rw (raise_on f u (suc fuel) fuel refl some, e) record {
        holds = later.holds;
        rest = λ y k a d. later.rest y k a d ∙ raise_rest h u y k a d;
        chain = λ _ y a. elim (cases a) [
          | inl z ↦ rw z (later.off u (λ d. no_loop t u in_u d) ∙ raise_row h u (omega (arith, in_u)) (q u some here) u
              ∙ put_same (λ z. field_at f z size_place) u (field_at f u size_place + 1))
          | inr z ↦ later.chain z.0 y z.1 ∙ ap (λ (s : ℕ). s + 1) (other y z.0 z.1)
        ];
        off = λ y o. later.off y (λ d a. o some (there d a)) ∙ raise_row h u (omega (arith, in_u)) (q u some here) y
            ∙ put_other (λ z. field_at f z size_place) u (field_at f u size_place + 1) y (λ z. o some (rw z here));
      }
    where
      in_u : u < n
      in_u = in_use u i

      some : u ≢ none
      some = row_some t in_u refl

      other : (y : ℕ) → up u ≢ none → Anc up y (up u) → field_at (raised_at f u) y size_place ≡ field_at f y size_place
      other y d a = raise_row h u (omega (arith, in_u)) (q u some here) y
          ∙ put_other (λ z. field_at f z size_place) u (field_at f u size_place + 1) y (λ z. no_loop t u in_u d (rw z at a))

      later : Raised up c (raised_at f u) (up u) (raised fuel (raised_at f u) (up u))
      later = more (raised_at f u) (up u) (raise_holds h u) (reaches_up fuel u i r)
          (λ y j. raise_rest h u y upper_place (omega arith) (λ e. omega arith) ∙ p y j)
          (λ y d a. rw (other y d a) (q y some (there d a)))

  pub raise : (fuel : ℕ) → Raises fuel
  raise zero f u h (ended e) p q = rw (raise_stop f u zero e) (raised_none up h u e)
  raise zero f u h (going l r) p q = absurd (omega arith)
  raise (suc fuel) f u h i p q = raise_step fuel (raise fuel) f u h i p q
