-- What is proved of `CheckWalkExact`.
use Rattle.std.specs.Prelude.{◌≡◌, Bool, true, false, ◌≢◌, List, Option, Some}
use Rattle.std.proofs.Math.Path.{refl}
use Rattle.std.proofs.Common.{ap, sym, ◌∙◌, inl, inr, arith}
use Prim.Native.Nat.{ℕ, zero, suc, ◌+◌, ◌-◌, ◌*◌, ◌<◌}
use Rattle.std.proofs.Math.Decide.{ℕ_discrete}
use borrow.Author.Tests.{ne_eqb, eq-eqb}
use Rattle.laws.specs.Test.{pick}
use Rattle.tree_laws.specs.Ancestor.{none}
use Rattle.tree_laws.specs.AncestorLaws.{cases}
use Rattle.tree_laws.specs.Siblings.{Kin, nil, node, count, In, Below as AllBelow}
use Rattle.tree_laws.specs.SiblingsLaws.{in_inside, in_anc, size_count}
use Rattle.tree_laws.specs.Walk.{Position, down, up, turn, move, Visit}
use Rattle.tree_laws.specs.WalkLaws.{turn_up, turn_down}
use Rattle.layer.specs.Layer.{Layer, parent}
use Rattle.tree_laws.specs.ChildLinks.{Chain, end, link, Member}
use Rattle.layer.specs.StoredTree.{Child, ChildLinks}
use Rattle.join_laws.specs.Renumbered.{rows}
use Rattle.renumber_laws.proofs.SizesSwept.{head_not_in}
use Rattle.renumber_laws.specs.Loop.{Through, empty, around, Turning, Came}
use Rattle.renumber_laws.proofs.Loop.{turns}
use Rattle.renumber_laws.proofs.LoopLaws.{turns_add, loop_forest}
use Rattle.renumber_laws.specs.Renumbering.{Renumberable}
use Rattle.renumber_laws.proofs.Renumbering.{links_of}
use Rattle.renumber_laws.proofs.RenumberingLaws.{stored_tree, head_below}
use Rattle.renumber_laws.proofs.WalkedLaws.{Under}
use Rattle.join.specs.declared.attach.Leaf.{Leaf}
use Rattle.renumber.specs.declared.place.Place.{Place}
use Rattle.counts.specs.Count.{steps_of}
use Rattle.join.specs.CheckWalk.{is_readable, entered, left_row, check_turn, turned, is_back, check_walk}
use Rattle.renumber_exact.specs.Places.{row_of, is_down}
use Rattle.join_exact.specs.CheckWalkExact.{Standing}

-- A turn by where it leads

true_not_false : true ≡ false → ⊥
true_not_false e = let z : ◌≡◌ {A = ℕ} 1 0 = ap (λ (b : Bool). pick b 1 0) e in omega arith

up_not_down : {v x : ℕ} → up v ≡ down x → ⊥
up_not_down e = true_not_false (sym (ap is_down e))

turns_down : (v c x : ℕ) → turn v c ≡ down x → (c ≢ none) × (c ≡ x)
turns_down v c x e = elim (ℕ_discrete c none) [
  | yes z ↦ absurd (up_not_down (sym (turn_up v c z) ∙ e))
  | no d ↦ (d, ap row_of (sym (turn_down v c d) ∙ e))
]

turns_up : (v c x : ℕ) → turn v c ≡ up x → (c ≡ none) × (v ≡ x)
turns_up v c x e = elim (ℕ_discrete c none) [
  | yes z ↦ (z, ap row_of (sym (turn_up v c z) ∙ e))
  | no d ↦ absurd (up_not_down (sym e ∙ turn_down v c d))
]

-- the first row of a chain, and the next of a row of it, stand in it
chain_first : {next : ℕ → ℕ} {c : ℕ} {xs : List ℕ} → Chain next c xs → c ≢ none → Member xs c
chain_first (end e) d = absurd (d e)
chain_first (link i p) d = inl refl

chain_next : {next : ℕ → ℕ} {c y : ℕ} {xs : List ℕ} → Chain next c xs → Member xs y → next y ≢ none → Member xs (next y)
chain_next (end e) m d = absurd m
chain_next (link i p) (inl e) d = rw e (inr (chain_first p (rw e at d)))
chain_next (link i p) (inr m) d = inr (chain_next p m d)

-- so a link to a child leads to a child
first_child : {t : Layer} {v : ℕ} → ChildLinks t v → (t.row v).first ≢ none → Child t v (t.row v).first
first_child {t} {v} k d = k.over (t.row v).first (chain_first k.chain d)

next_child : {t : Layer} {v y : ℕ} → ChildLinks t v → Child t v y → (t.row y).next ≢ none → Child t v (t.row y).next
next_child {t} {v} {y} k c d = k.over (t.row y).next (chain_next k.chain (k.all y c) d)

-- a walk that visits nothing
abbrev unseen : Visit (Unit {0})
unseen = record { enter = λ x s. s; leave = λ x s. s }

through_all : (f : Kin) (t : Unit {0}) → Through unseen (λ x s. Unit {0}) (λ x s. Unit {0}) f t
through_all nil t = empty
through_all (node r kids rest) t = around {x = r} {kids = kids} {rest = rest} {t = t} tt (through_all kids t) tt (through_all rest _)

module _ {m : Layer} {h : ℕ} (g : Renumberable m h) (f numbers : List ℕ) (n : ℕ) (leaf : Leaf) (stands : Standing m f leaf)
    (readable : (y : ℕ) → y < m.count → is_readable f numbers n leaf y ≡ true) where
  abbrev step : Option Place → Option Place
  step = turned f numbers n leaf h

  abbrev stood : Position → Option Place
  stood p = Some (record { row = row_of p; down = is_down p })

  -- the walk stands at p, on a row in use; it goes up out of rows below the head only
  record Has (p : Position) (t : Unit {0}) (q : Option Place) : Type 0 where
    is : q ≡ stood p
    in_use : row_of p < m.count
    under : is_down p ≡ false → Under m h (row_of p)

  entered_down : (v x : ℕ) → x ≢ none → x < m.count → (m.row x).parent ≡ v → entered f numbers n leaf v x ≡ stood (down x)
  unfolding entered
  entered_down v x d l e = rw (ne_eqb x none d, readable x l, stands.parent x l, eq-eqb (m.row x).parent v e) refl

  entered_up : (v c : ℕ) → c ≡ none → entered f numbers n leaf v c ≡ stood (up v)
  unfolding entered
  entered_up v c e = rw (eq-eqb c none e) refl

  -- one step
  from_down : (y : ℕ) → y < m.count → step (stood (down y)) ≡ entered f numbers n leaf y (m.row y).first
  unfolding turned check_turn
  from_down y l = rw (stands.first y l) refl

  from_up : (y : ℕ) → Under m h y → step (stood (up y)) ≡ entered f numbers n leaf (parent m y) (m.row y).next
  unfolding turned check_turn left_row
  from_up y u = rw (ne_eqb y h u.other, stands.parent y u.in_use, stands.next y u.in_use) refl

  over : (y : ℕ) → Under m h y → parent m y ≢ none
  over y u = elim (cases u.below) [ inl e ↦ absurd (u.other (sym e)) | inr z ↦ z.0 ]

  step_down : (p : Position) (x : ℕ) → move (links_of m) p ≡ down x → row_of p < m.count → (is_down p ≡ false → Under m h (row_of p)) → step (stood p) ≡ stood (down x)
  step_down (down y) x e l u =
      let z = turns_down y (m.row y).first x e in
      let o = first_child (g.children y l) z.0 in
      from_down y l ∙ entered_down y (m.row y).first z.0 o.in_use o.parent ∙ ap (λ (w : ℕ). stood (down w)) z.1
  step_down (up y) x e l u =
      let z = turns_down (parent m y) (m.row y).next x e in
      let i = over y (u refl) in
      let o = next_child (g.children (parent m y) ((stored_tree g).inside y (u refl).in_use i)) record { in_use = (u refl).in_use; parent = refl } z.0 in
      from_up y (u refl) ∙ entered_down (parent m y) (m.row y).next z.0 o.in_use o.parent ∙ ap (λ (w : ℕ). stood (down w)) z.1

  step_up : (p : Position) (x : ℕ) → move (links_of m) p ≡ up x → row_of p < m.count → (is_down p ≡ false → Under m h (row_of p)) → step (stood p) ≡ stood (up x)
  step_up (down y) x e l u =
      let z = turns_up y (m.row y).first x e in
      from_down y l ∙ entered_up y (m.row y).first z.0 ∙ ap (λ (w : ℕ). stood (up w)) z.1
  step_up (up y) x e l u =
      let z = turns_up (parent m y) (m.row y).next x e in
      from_up y (u refl) ∙ entered_up (parent m y) (m.row y).next z.0 ∙ ap (λ (w : ℕ). stood (up w)) z.1

  turning : Turning (links_of m) step unseen (λ x s. Unit {0}) (λ x s. Unit {0}) Has (Under m h)
  turning = record {
    enter = λ x u p e t q z i. record {
      is = ap step i.is ∙ step_down p x e i.in_use i.under;
      in_use = u.in_use;
      under = λ y. u;
    };
    leave = λ x u p e t q z i. record { is = ap step i.is ∙ step_up p x e i.in_use i.under; in_use = u.in_use; under = λ y. u };
  }

  -- the whole walk
  kin : Kin
  kin = (head_below g).kin

  kin_below : AllBelow (links_of m) m.count h kin
  unfolding kin
  kin_below = (head_below g).is

  in_under : (x : ℕ) → In kin x → Under m h x
  in_under x z = record {
    in_use = in_inside kin_below.whole z;
    below = in_anc (links_of m) (stored_tree g) g.in_use kin_below z;
    other = λ e. head_not_in (links_of m) (stored_tree g) g.in_use kin_below (rw e at z);
  }

  came : Came (links_of m) Has h tt (turns step (2 * count kin) (stood (down h)))
  came = loop_forest (links_of m) step unseen (λ x s. Unit {0}) (λ x s. Unit {0}) Has turning (stood (down h)) (down h) kin_below.reads in_under
      (through_all kin tt) refl record { is = refl; in_use = g.in_use; under = λ e. absurd (true_not_false e) }

  last : turns step (2 * count kin + 1) (stood (down h)) ≡ stood (up h)
  last = turns_add step (2 * count kin) 1 (stood (down h)) ∙ ap step came.has.is ∙ step_up came.place h came.next came.has.in_use came.has.under

  check_turns : (steps : ℕ) (q : Option Place) → check_walk steps f numbers n leaf h q ≡ is_back h (turns step steps q)
  unfolding check_walk
  check_turns zero q = refl
  check_turns (suc steps) q = check_turns steps (step q)

  pub check_passes : check_walk (steps_of (rows m h)) f numbers n leaf h (Some (record { row = h; down = true })) ≡ true
  check_passes =
      let e : rows m h * 2 - 1 ≡ 2 * count kin + 1 = omega (arith, size_count (links_of m) (stored_tree g) g.in_use kin_below) in
      rw (e, check_turns (2 * count kin + 1) (stood (down h)), last, eq-eqb h h refl) refl
