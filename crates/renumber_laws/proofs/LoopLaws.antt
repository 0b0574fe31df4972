-- A loop whose turns do the visits of a sweep does the sweep, in two turns for each row.
use Rattle.std.specs.Prelude.{◌≡◌, refl, ℕ, zero, suc, ◌+◌, ◌*◌}
use Rattle.std.proofs.Common.{◌∙◌, inl, inr, zero-add, suc-add, arith}
use Rattle.tree_laws.specs.Siblings.{Kin, count, In, Links, Reads, stop, more}
use Rattle.tree_laws.specs.Walk.{Position, down, up, turn, move, Visit, sweep}
use Rattle.tree_laws.specs.WalkLaws.{turn_up, turn_down}
use Rattle.renumber_laws.specs.Loop.{Through, empty, around, Turning, Came}
use Rattle.renumber_laws.proofs.Loop.{turns}

pub turns_add : {Q : Type 0} (step : Q → Q) (m n : ℕ) (q : Q) → turns step (m + n) q ≡ turns step n (turns step m q)
turns_add step zero n q = rw zero-add
turns_add step (suc m) n q = rw suc-add (turns_add step m n (step q))

-- more is known at each row
pub through_map : {T : Type 0} {v : Visit T} {E F L M : ℕ → T → Type 0} {f : Kin} {t : T} → ((x : ℕ) → In f x → (t : T) → E x t → F x t)
    → ((x : ℕ) → In f x → (t : T) → L x t → M x t) → Through v E L f t → Through v F M f t
through_map e l empty = empty
through_map e l (around {x = x} p q r s) =
    around (e x (inl refl) _ p) (through_map (λ y z. e y (inr (inl z))) (λ y z. l y (inr (inl z))) q)
    (l x (inl refl) _ r) (through_map (λ y z. e y (inr (inr z))) (λ y z. l y (inr (inr z))) s)

module _ (k : Links) {Q T : Type 0} (step : Q → Q) (v : Visit T) (E L : ℕ → T → Type 0) (Has : Position → T → Q → Type 0) {P : ℕ → Type 0}
    (a : Turning k step v E L Has P) where
  -- the rows f below x, from the first of them on
  pub loop_forest : {x c : ℕ} {f : Kin} (q : Q) {t : T} (p : Position) → Reads k x c f → ((y : ℕ) → In f y → P y) → Through v E L f t
      → move k p ≡ turn x c → Has p t q → Came k Has x (sweep v f t) (turns step (2 * count f) q)
  loop_forest {x} {c} q p (stop e) i empty z h = record { place = p; next = z ∙ turn_up x c e; has = h }
  loop_forest {x} {c} q {t} p (more {kids = kids} {rest} d e g r) i (around m b o y) z h =
      let h₁ = a.enter c (i c (inl refl)) p (z ∙ turn_down x c d) t q m h in
      let below = loop_forest (step q) (down c) g (λ u w. i u (inr (inl w))) b refl h₁ in
      let q₂ : Q = turns step (2 * count kids) (step q) in
      let t₂ : T = sweep v kids (v.enter c t) in
      let h₂ = a.leave c (i c (inl refl)) below.place below.next t₂ q₂ o below.has in
      let after : move k (up c) ≡ turn x (k.next c) = rw e in
      let later = loop_forest (step q₂) (up c) r (λ u w. i u (inr (inr w))) y after h₂ in
      let n : 2 * (1 + count kids + count rest) ≡ suc (2 * count kids + suc (2 * count rest)) = omega arith in
      rw (n, turns_add step (2 * count kids) (suc (2 * count rest)) (step q)) later
