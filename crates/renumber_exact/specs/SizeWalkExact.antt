-- The code's walk for sizes does the walk over columns: true sizes and heavy links at and below the head.
use Rattle.std.specs.Prelude.{◌≡◌, refl, true, false, ◌≢◌, List, ℕ, zero, suc, ◌+◌, ◌-◌, ◌*◌, ◌≤◌, ◌<◌}
use Rattle.std.proofs.Math.Path.{ap, sym}
use Rattle.std.proofs.Common.{◌∙◌, inl, inr}
use Rattle.std.proofs.Math.Decide.{dec_le, dec_lt, ℕ_discrete}
use native.Mathlib.Omega.{arith}
use borrow.Author.Tests.{ne_eqb, lt-ltb, le-ltb, le-leb, lt-leb}
use Rattle.tree_laws.specs.Ancestor.{none}
use Rattle.tree_laws.specs.AncestorLaws.{cases}
use Rattle.tree_laws.specs.Siblings.{Links}
use Rattle.tree_laws.specs.Walk.{Position, down, up, move}
use Rattle.layer.specs.Layout.{field_stride, parent_place, first_place, next_place, path_place, size_place}
use Rattle.layer.specs.Row.{field_at}
use Rattle.layer.specs.Write.{with_field}
use Rattle.renumber_laws.specs.Column.{put}
use Rattle.layer.specs.Layer.{Layer, parent, depth}
use Rattle.tree_laws.specs.SizeDepth.{size_le as size_count}
use Rattle.join_laws.specs.Renumbered.{rows}
use Rattle.renumber_laws.specs.Sizes.{Sizing, linked, opened, counted, kept_heavy, closed, offered, size_visit}
use Rattle.renumber_laws.specs.SizesSwept.{Sized as TrueSizes}
use Rattle.renumber_laws.proofs.SizesLaws.{closed_size, left_met}
use Rattle.renumber_laws.specs.Loop.{Turning}
use Rattle.renumber_laws.proofs.Loop.{turns}
use Rattle.renumber_laws.specs.Renumbering.{sizes_of, Renumberable}
use Rattle.renumber_laws.proofs.Renumbering.{links_of}
use Rattle.renumber_laws.proofs.RenumberingLaws.{stored_tree}
use Rattle.renumber_laws.proofs.WalkedLaws.{Under, SizesWalked, sizes_walked}
use Rattle.renumber.specs.declared.place.Place.{Place}
use Rattle.renumber.specs.declared.size_walk.Sizing.{Sizing as At}
use Rattle.counts.specs.Count.{one_more, steps_of}
use Rattle.renumber.specs.Place.{arrival}
use Rattle.renumber.specs.SizeWalk.{Sized, size_entered, heavy_kept, size_left, offered_to, size_turn, size_walk}
use Rattle.renumber_exact.specs.Columns.{Holds, holds_set, past, set_same, set_other, put_none}
use Rattle.renumber_exact.specs.Places.{row_of, is_down, Stands, turn_stands}

-- the fields f hold the sizes and path links of s, and all else of the fields b
pub record Sizes (c : ℕ) (b f : List ℕ) (s : Sizing) : Type 0 where
  pub holds : Holds field_stride c f
  pub size : (y : ℕ) → field_at f y size_place ≡ s.size y
  pub path : (y : ℕ) → field_at f y path_place ≡ s.path y
  pub rest : (y k : ℕ) → k < field_stride → k ≢ size_place → k ≢ path_place → field_at f y k ≡ field_at b y k

module _ {c : ℕ} {b f : List ℕ} {s : Sizing} (i : Sizes c b f s) (x : ℕ) (l : x < c) where
  path_stored : (v : ℕ) → Sizes c b (with_field f x path_place v) (linked x v s)
  unfolding linked
  path_stored v = record {
    holds = holds_set i.holds _ v;
    size = λ y. set_other i.holds x path_place v (omega arith) y size_place (omega arith) (λ e. omega arith) ∙ i.size y;
    path = λ y. set_same i.holds x path_place v l (omega arith) s.path y (i.path y);
    rest = λ y k a d e. set_other i.holds x path_place v (omega arith) y k a e ∙ i.rest y k a d e;
  }

  size_stored : (v : ℕ) → Sizes c b (with_field f x size_place v) record { size = put s.size x v; path = s.path; met = s.met }
  size_stored v = record {
    holds = holds_set i.holds _ v;
    size = λ y. set_same i.holds x size_place v l (omega arith) s.size y (i.size y);
    path = λ y. set_other i.holds x size_place v (omega arith) y path_place (omega arith) (λ e. omega arith) ∙ i.path y;
    rest = λ y k a d e. set_other i.holds x size_place v (omega arith) y k a d ∙ i.rest y k a d e;
  }

-- a sizing with the same columns
sizes_same : {c : ℕ} {b f : List ℕ} {s : Sizing} (t : Sizing) → Sizes c b f s → ((y : ℕ) → s.size y ≡ t.size y) → ((y : ℕ) → s.path y ≡ t.path y)
    → Sizes c b f t
sizes_same t i u v = record { holds = i.holds; size = λ y. i.size y ∙ u y; path = λ y. i.path y ∙ v y; rest = i.rest }

module _ {c : ℕ} {b f : List ℕ} {s : Sizing} (i : Sizes c b f s) where
  no_size : field_at f none size_place ≡ 0
  no_size = past i.holds none size_place (omega (arith, i.holds.most))

  pub sizes_opened : (x : ℕ) → x < c → (met : ℕ) → met ≡ s.met → Sizes c b (size_entered f x met) (opened x s)
  unfolding size_entered opened linked
  sizes_opened x l met e = rw e (sizes_same (opened x s) (path_stored (size_stored i x l s.met) x l none) (λ y. refl) (λ y. refl))

  pub sizes_counted : (x : ℕ) → x < c → (met : ℕ) → met ≡ s.met → Sizes c b (with_field f x size_place (met - field_at f x size_place)) (counted x s)
  unfolding counted
  sizes_counted x l met e = rw (e, i.size x) (size_stored i x l (s.met - s.size x))

  -- the largest child is kept where it is heavy
  pub sizes_kept : (x : ℕ) → x < c → Sizes c b (heavy_kept f x) (kept_heavy x s)
  unfolding heavy_kept kept_heavy linked
  sizes_kept x l = elim (ℕ_discrete (s.path x) none) [
    | yes e ↦ rw (i.path x, e, no_size, le-ltb (field_at f x size_place) (2 * 0) (omega arith))
        (sizes_same s (path_stored i x l none) (λ y. refl) (put_none s.path x none e))
    | no d ↦ rw (i.path x, i.size (s.path x), i.size x, ne_eqb (s.path x) none d) (elim (dec_le (2 * s.size (s.path x)) (s.size x)) [
      | yes m ↦ rw (le-ltb (s.size x) (2 * s.size (s.path x)) m, le-leb (2 * s.size (s.path x)) (s.size x) m) (path_stored i x l none)
      | no m ↦ rw (lt-ltb (s.size x) (2 * s.size (s.path x)) (omega arith), lt-leb (2 * s.size (s.path x)) (s.size x) (omega arith)) i
    ])
  ]

  pub sizes_offered : (v x : ℕ) → v < c → 0 < s.size x → Sizes c b (offered_to f v x) (offered v x s)
  unfolding offered_to offered
  sizes_offered v x l p = elim (ℕ_discrete (s.path v) none) [
    | yes e ↦ rw (i.path v, e, no_size, i.size x, lt-ltb 0 (s.size x) p) (path_stored i v l x)
    | no d ↦ rw (i.path v, i.size (s.path v), i.size x, ne_eqb (s.path v) none d) (elim (dec_lt (s.size (s.path v)) (s.size x)) [
      | yes m ↦ rw (lt-ltb (s.size (s.path v)) (s.size x) m) (path_stored i v l x)
      | no m ↦ rw (le-ltb (s.size (s.path v)) (s.size x) (omega arith)) i
    ])
  ]

pub sizes_closed : {c : ℕ} {b f : List ℕ} {s : Sizing} → Sizes c b f s → (x : ℕ) → x < c → (met : ℕ) → met ≡ s.met → Sizes c b (size_left f x met) (closed x s)
unfolding size_left closed
sizes_closed i x l met e = sizes_kept (sizes_counted i x l met e) x l

-- The walk

-- one more than a number that a layer can count
pub more_one : (a : ℕ) → a < 65535 → one_more a ≡ a + 1
unfolding one_more
more_one a l = rw (lt-ltb a 65535 l)

-- fields b have the child links k
pub record LinksIn (k : Links) (b : List ℕ) : Type 0 where
  pub parents : (y : ℕ) → field_at b y parent_place ≡ k.parent y
  pub firsts : (y : ℕ) → field_at b y first_place ≡ k.first y
  pub nexts : (y : ℕ) → field_at b y next_place ≡ k.next y

-- a step in order of arrival is a move
pub arrival_stands : {k : Links} {b : List ℕ} → LinksIn k b → (q : Position) → Stands (arrival b (row_of q) (is_down q)) (move k q)
unfolding arrival
arrival_stands {k} i (down v) = rw (i.firsts v) (turn_stands v (k.first v))
arrival_stands {k} i (up v) = rw (i.parents v, i.nexts v) (turn_stands (k.parent v) (k.next v))

-- with the visit at p done, the walk has the sizing t, and stands where the next move leads
pub record HasSizes (c : ℕ) (k : Links) (b : List ℕ) (p : Position) (t : Sizing) (q : Sized) : Type 0 where
  pub sizes : Sizes c b q.fields t
  pub met : q.place.met ≡ t.met
  pub row : q.place.row ≡ row_of (move k p)
  pub down : q.place.down ≡ is_down (move k p)

abbrev pub size_step : Sized → Sized
size_step q = size_turn q.fields q.place

-- so many steps and the last row left are so many turns
pub size_turns : (steps : ℕ) (q : Sized) → size_walk steps q.fields q.place
    ≡ size_left (turns size_step steps q).fields (turns size_step steps q).place.row (turns size_step steps q).place.met
unfolding size_walk
size_turns zero q = refl
size_turns (suc steps) q = size_turns steps (size_step q)

module _ {c : ℕ} {b f : List ℕ} {s : Sizing} (k : Links) (j : LinksIn k b) (i : Sizes c b f s) where
  links_kept : LinksIn k f
  links_kept = record {
    parents = λ y. i.rest y parent_place (omega arith) (λ e. omega arith) (λ e. omega arith) ∙ j.parents y;
    firsts = λ y. i.rest y first_place (omega arith) (λ e. omega arith) (λ e. omega arith) ∙ j.firsts y;
    nexts = λ y. i.rest y next_place (omega arith) (λ e. omega arith) (λ e. omega arith) ∙ j.nexts y;
  }

  -- down into x
  turn_entered : (x : ℕ) → x < c → (u : At) → u.row ≡ x → u.down ≡ true → u.met ≡ s.met → s.met < 65535
      → HasSizes c k b (down x) (opened x s) (size_turn f u)
  unfolding size_turn opened
  turn_entered x l u r d m w = let a = arrival_stands links_kept (down x) in rw (d, r) record {
    sizes = sizes_opened i x l u.met m;
    met = more_one u.met (omega arith) ∙ ap (λ (z : ℕ). z + 1) m;
    row = a.row;
    down = a.down;
  }

  -- up out of x
  turn_left : (x : ℕ) → x < c → k.parent x < c → (u : At) → u.row ≡ x → u.down ≡ false → u.met ≡ s.met → s.size x < s.met
      → HasSizes c k b (up x) ((size_visit k.parent).leave x s) (size_turn f u)
  unfolding size_turn size_visit
  turn_left x l o u r d m w =
      let a = arrival_stands links_kept (up x) in
      let n = sizes_closed i x l u.met m in
      let e : field_at (size_left f x u.met) x parent_place ≡ k.parent x =
      n.rest x parent_place (omega arith) (λ e. omega arith) (λ e. omega arith) ∙ j.parents x in
      rw (d, r) record {
        sizes = rw e (sizes_offered n (k.parent x) x o (omega (arith, closed_size x s)));
        met = m ∙ sym (left_met k.parent x s);
        row = a.row;
        down = a.down;
      }

module _ {m : Layer} {h : ℕ} (g : Renumberable m h) {c : ℕ} {b : List ℕ} (fit : m.count ≤ c) (j : LinksIn (links_of m) b)
    (first : Sizes c b b (sizes_of m)) where
  few : rows m h < 65535
  few = omega (arith, size_count (parent m) (depth m) m.count h, first.holds.most)

  parent_in : (x : ℕ) → Under m h x → parent m x < c
  parent_in x u = elim (cases u.below) [
    | inl e ↦ absurd (u.other (sym e))
    | inr z ↦ omega (arith, (stored_tree g).inside x u.in_use z.0)
  ]

  turning : Turning (links_of m) size_step (size_visit (parent m)) (λ x t. t.met < rows m h) (λ x t. t.size x < t.met) (HasSizes c (links_of m) b) (Under m h)
  unfolding size_visit
  turning = record {
    enter = λ x u p e t q z i. turn_entered (links_of m) j i.sizes x (omega (arith, u.in_use)) q.place (i.row ∙ ap row_of e) (i.down ∙ ap is_down e)
        i.met (omega (arith, few));
    leave = λ x u p e t q z i. turn_left (links_of m) j i.sizes x (omega (arith, u.in_use)) (parent_in x u) q.place (i.row ∙ ap row_of e) (i.down ∙ ap is_down e)
        i.met z;
  }

  -- where the walk begins
  abbrev begun : Sized
  begun = record { fields = b; place = record { row = h; down = true; met = 0 } }

  begun_has : HasSizes c (links_of m) b (down h) (opened h (sizes_of m)) (size_step begun)
  begun_has = turn_entered (links_of m) j first h (omega (arith, g.in_use)) begun.place refl refl refl (omega arith)

  walked : SizesWalked m h (HasSizes c (links_of m) b) (turns size_step (2 * rows m h - 1) begun)
  walked = sizes_walked g size_step (HasSizes c (links_of m) b) turning begun begun_has

  pub sizing_after : Sizing
  sizing_after = closed h walked.sizing

  -- the sizing is true at and below the head
  pub after_true : TrueSizes (parent m) (depth m) m.count h (sizes_of m) sizing_after
  unfolding sizing_after
  after_true = walked.sized

  -- and the fields hold it
  pub after_held : Sizes c b (size_walk (steps_of (rows m h)) b (record { row = h; down = true; met = 0 })) sizing_after
  unfolding sizing_after
  after_held =
      let o : HasSizes c (links_of m) b walked.came.place walked.sizing (turns size_step (2 * rows m h - 1) begun) = walked.came.has in
      let n : rows m h * 2 - 1 ≡ 2 * rows m h - 1 = omega arith in
      let r : (turns size_step (2 * rows m h - 1) begun).place.row ≡ h = o.row ∙ ap row_of walked.came.next in
      rw (n, size_turns (2 * rows m h - 1) begun, r)
      (sizes_closed o.sizes h (omega (arith, g.in_use)) (turns size_step (2 * rows m h - 1) begun).place.met o.met)
