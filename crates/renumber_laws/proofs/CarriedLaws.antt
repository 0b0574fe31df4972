-- The walk that carries the apex along stores the same, and each number that it stores is the one that stands at its end.
use Rattle.std.specs.Prelude.{◌≡◌, Bool, ◌≢◌, ℕ, ◌+◌, ◌≤◌, eqb}
use Rattle.std.proofs.Math.Path.{refl}
use Rattle.std.proofs.Common.{ap, sym, ◌∙◌, inl, inr, add-zero, arith}
use Rattle.laws.specs.Test.{Says, holds, fails, says_true, says_false, says_eqb, pick}
use Rattle.tree_laws.specs.Ancestor.{none}
use Rattle.tree_laws.specs.Compressed.{is_apex}
use Rattle.tree_laws.specs.CompressedLaws.{says_is_apex}
use Rattle.tree_laws.specs.Siblings.{Kin, nil, node, count, In, Distinct, apart, Links, Reads, more}
use Rattle.tree_laws.specs.Walk.{sweep, on_entry}
use Rattle.renumber_laws.specs.Numbers.{Numbers, top_of, size_of, numbered_below, numbered}
use Rattle.renumber_laws.specs.Placed.{Kept, Placed}
use Rattle.renumber_laws.proofs.Placed.{placed_is}
use Rattle.renumber_laws.specs.Carried.{Carried, carried_visit, Lasting, Coming}
use Rattle.renumber_laws.specs.Loop.{Through, empty, around}
use Rattle.renumber_laws.proofs.LoopLaws.{through_map}

module _ (parent path : ℕ → ℕ) where
  -- What a visit keeps

  numbered_is : (x : ℕ) (c : Numbers)
      → Placed c (numbered parent path x c) x (top_of parent path c (parent x)) (c.next_free (top_of parent path c (parent x))) (size_of parent path c x)
  unfolding numbered numbered_below
  numbered_is x c = placed_is x _ _ _ c

  kept_refl : (c : Numbers) (y : ℕ) → Kept c c y
  kept_refl c y = record { upper = refl; size = refl; set_size = refl; start = refl; entry = λ i. refl }

  kept_trans : {b c d : Numbers} {y : ℕ} → Kept b c y → Kept c d y → Kept b d y
  kept_trans p q = record {
    upper = q.upper ∙ p.upper;
    size = q.size ∙ p.size;
    set_size = q.set_size ∙ p.set_size;
    start = q.start ∙ p.start;
    entry = λ i. q.entry i ∙ p.entry i;
  }

  -- a row that is not among those of f is kept
  sweep_kept : (f : Kin) (c : Numbers) (y : ℕ) → ¬ In f y → Kept c (sweep (on_entry (numbered parent path)) f c) y
  sweep_kept nil c y o = kept_refl c y
  sweep_kept (node r kids rest) c y o = kept_trans ((numbered_is r c).others y (λ e. o (inl e)))
      (kept_trans (sweep_kept kids (numbered parent path r c) y (λ z. o (inr (inl z))))
      (sweep_kept rest (sweep (on_entry (numbered parent path)) kids (numbered parent path r c)) y (λ z. o (inr (inr z)))))

  -- The apex that is carried

  top_kept : (c d : Numbers) (v : ℕ) → d.upper v ≡ c.upper v → top_of parent path d v ≡ top_of parent path c v
  unfolding top_of
  top_kept c d v e = rw e

  top_entered : (r : ℕ) (c : Numbers) → parent r ≢ none
      → pick (eqb (path (parent r)) r) (top_of parent path c (parent r)) r ≡ top_of parent path (numbered parent path r c) r
  unfolding top_of
  top_entered r c some = go (says_eqb (path (parent r)) r)
    where
      go : {b : Bool} → Says (path (parent r) ≡ r) b → pick b (top_of parent path c (parent r)) r
          ≡ pick (is_apex parent path r) r ((numbered parent path r c).upper r)
      go (holds e) = rw (says_false (says_is_apex parent path r) (λ a. a some e)) (sym (numbered_is r c).upper)
      go (fails d) = rw (says_true (says_is_apex parent path r) (λ _. d))

  entered : (r top given : ℕ) (c : Numbers) → parent r ≢ none → top ≡ top_of parent path c (parent r)
      → (carried_visit parent path).enter r record { numbers = c; top = top; given = given }
      ≡ record { numbers = numbered parent path r c; top = top_of parent path (numbered parent path r c) r; given = given + 1 }
  unfolding carried_visit numbered
  entered r top given c some e = rw (e, top_entered r c some)

  left : (r top given : ℕ) (c : Numbers)
      → (carried_visit parent path).leave r record { numbers = c; top = top; given = given } ≡ record { numbers = c; top = c.upper r; given = given }
  unfolding carried_visit
  left r top given c = refl

  -- the visit of r in a sweep of r, the rows below it and the rest: what it stores, and what is carried on to the rest
  module _ (v r : ℕ) (kids : Kin) (c : Numbers) (e : parent r ≡ v) (new : ¬ In kids r) (out : ¬ In kids v) (ne : v ≢ r) where
    row_kept : Kept (numbered parent path r c) (sweep (on_entry (numbered parent path)) kids (numbered parent path r c)) r
    row_kept = sweep_kept kids (numbered parent path r c) r new

    top_left : (sweep (on_entry (numbered parent path)) kids (numbered parent path r c)).upper r
        ≡ top_of parent path (sweep (on_entry (numbered parent path)) kids (numbered parent path r c)) v
    top_left = row_kept.upper ∙ (numbered_is r c).upper ∙ ap (top_of parent path c) e
        ∙ sym (top_kept c _ v ((sweep_kept kids (numbered parent path r c) v out).upper ∙ ((numbered_is r c).others v ne).upper))

    lasting : {d : Numbers} → Kept (sweep (on_entry (numbered parent path)) kids (numbered parent path r c)) d r
        → Lasting parent path d r (top_of parent path c (parent r)) c
    lasting k = record {
      upper = sym (k.upper ∙ row_kept.upper ∙ (numbered_is r c).upper);
      start = sym (k.start ∙ row_kept.start ∙ (numbered_is r c).start);
      set_size = sym (k.set_size ∙ row_kept.set_size ∙ (numbered_is r c).set_size);
    }

module _ (k : Links) (path : ℕ → ℕ) where
  -- the columns after a sweep of f from c on, below v, and what is carried then
  abbrev plain : Kin → Numbers → Numbers
  plain f c = sweep (on_entry (numbered k.parent path)) f c

  pub sweep_carried : {v w : ℕ} {f : Kin} (c : Numbers) (given : ℕ) {top : ℕ} → v ≢ none → Reads k v w f → Distinct f → ¬ In f v
      → top ≡ top_of k.parent path c v
      → sweep (carried_visit k.parent path) f record { numbers = c; top = top; given = given }
      ≡ record { numbers = plain f c; top = top_of k.parent path (plain f c) v; given = given + count f }
  sweep_carried {f = nil} c given some r d o e = rw (e, add-zero given)
  sweep_carried {v} {f = node r kids rest} c given {top} some (more i z g h) (apart new alone two x y) o e =
      let c₁ : Numbers = numbered k.parent path r c in
      let c₂ : Numbers = plain kids c₁ in
      let a = sweep_carried {v = r} {f = kids} c₁ (given + 1) i g x new refl in
      let b = sweep_carried {v = v} {f = rest} c₂ (given + 1 + count kids) some h y (λ m. o (inr (inr m)))
      (top_left k.parent path v r kids c z new (λ m. o (inr (inl m))) (λ m. o (inl m))) in
      let n : given + (1 + count kids + count rest) ≡ given + 1 + count kids + count rest = omega arith in
      rw (
        entered k.parent path r top given c (rw z some) (rw z e),
        a,
        left k.parent path r (top_of k.parent path c₂ r) (given + 1 + count kids) c₂,
        n,
      ) b

  -- each visit of the walk stores what stands at its end
  pub through_carried : {v w : ℕ} {f : Kin} (c : Numbers) (given n : ℕ) {top : ℕ} → given + count f ≤ n → v ≢ none → Reads k v w f
      → Distinct f → ¬ In f v → top ≡ top_of k.parent path c v
      → Through (carried_visit k.parent path) (Coming k.parent path (plain f c) n) (λ x t. Unit {0}) f
      record { numbers = c; top = top; given = given }
  through_carried {f = nil} c given n l some r d o e = empty
  through_carried {v} {f = node r kids rest} c given n {top} l some (more i z g h) (apart new alone two x y) o e =
      let c₁ : Numbers = numbered k.parent path r c in
      let c₂ : Numbers = plain kids c₁ in
      let d : Numbers = plain rest c₂ in
      let on = top_left k.parent path v r kids c z new (λ m. o (inr (inl m))) (λ m. o (inl m)) in
      let start = entered k.parent path r top given c (rw z some) (rw z e) in
      let first : Lasting k.parent path d r (top_of k.parent path c (k.parent r)) c =
      lasting k.parent path v r kids c z new (λ m. o (inr (inl m))) (λ m. o (inl m)) (sweep_kept k.parent path rest c₂ r alone) in
      let below = through_map {F = Coming k.parent path d n} {M = λ x t. Unit {0}}
      (λ a m t q. coming_kept t q (sweep_kept k.parent path rest c₂ a (two a m))) (λ a m t q. q)
      (through_carried {v = r} {f = kids} c₁ (given + 1) n (omega arith) i g x new refl) in
      let later = through_carried {v = v} {f = rest} c₂ (given + 1 + count kids) n (omega arith) some h y (λ m. o (inr (inr m))) on in
      let ended = sweep_carried {v = r} {f = kids} c₁ (given + 1) i g x new refl in
      around {x = r} {kids = kids} {rest = rest} {t = record { numbers = c; top = top; given = given }}
      record { lasting = rw (z, ← e) at first; few = omega arith } (rw start below) tt
      (rw (start, ended, left k.parent path r (top_of k.parent path c₂ r) (given + 1 + count kids) c₂) later)
    where
      coming_kept : {d d' : Numbers} {x : ℕ} (s : Carried) → Coming k.parent path d n x s → Kept d d' x → Coming k.parent path d' n x s
      coming_kept s q p = record {
        lasting = record {
          upper = q.lasting.upper ∙ sym p.upper;
          start = q.lasting.start ∙ sym p.start;
          set_size = q.lasting.set_size ∙ sym p.set_size;
        };
        few = q.few;
      }
