-- The code's walk for numbers does the walk over columns, and gives a start to as many rows as lie at and below the head.
use Rattle.std.specs.Prelude.{◌≡◌, Bool, ◌⊎◌, ◌≢◌, List, ℕ, zero, suc, ◌+◌, ◌-◌, ◌*◌, ◌≤◌, ◌<◌, eqb}
use Rattle.std.proofs.Math.Path.{refl, ap}
use Rattle.std.proofs.Common.{◌∙◌, inl, inr, arith, ne_eqb}
use Rattle.std.proofs.Math.Bool.{true, false}
use Rattle.std.proofs.Math.Decide.{ℕ_discrete}
use Rattle.laws.specs.Test.{pick}
use Rattle.tree_laws.specs.Ancestor.{none, here}
use Rattle.tree_laws.specs.HeavyLast.{light_from, heavy_last}
use Rattle.tree_laws.specs.Siblings.{Links}
use Rattle.tree_laws.specs.Walk.{Position, down, up, move, turn}
use Rattle.span.specs.Constants.{limit}
use Rattle.span.specs.Numbers.{end_of}
use Rattle.layer.specs.Layout.{field_stride, parent_place, first_place, next_place, upper_place, path_place, size_place, set_size_place, next_free_place}
use Rattle.layer.specs.Row.{field_at, number_at}
use Rattle.layer.specs.Layer.{Layer, parent, depth, upper}
use Rattle.join_laws.specs.Renumbered.{Below, rows}
use Rattle.tree_laws.specs.SizeDepth.{size_le as size_count}
use Rattle.join_laws.proofs.Trees.{uppers}
use Rattle.renumber_laws.specs.Sizes.{Sizing}
use Rattle.renumber_laws.specs.SizesSwept.{Sized}
use Rattle.renumber_laws.specs.Numbers.{Numbers, head_start, head_placed, size_of, numbered_below}
use Rattle.renumber_laws.specs.Carried.{Carried, carried_visit, Coming}
use Rattle.renumber_laws.specs.Loop.{Turning}
use Rattle.renumber_laws.proofs.Loop.{turns}
use Rattle.renumber_laws.specs.Renumbering.{sizes_of, numbers_of, Renumberable}
use Rattle.renumber_laws.proofs.Renumbering.{links_of}
use Rattle.renumber_laws.proofs.RenumberingLaws.{sized_start}
use Rattle.renumber_laws.proofs.WalkedLaws.{Under, last_numbers, last_placed, numbers_walked}
use Rattle.renumber.specs.declared.place.Place.{Place}
use Rattle.renumber.specs.declared.number_walk.Numbering.{Numbering}
use Rattle.counts.specs.Count.{steps_of}
use Rattle.renumber.specs.Place.{up as up_of, turn as turn_to}
use Rattle.renumber.specs.NumberWalk.{
  light_or_last,
  sibling_or_up,
  heavy_last as heavy_step,
  Written,
  row_numbered,
  is_on_path,
  upper_of,
  size_of as size_at,
  Numbered as Standing,
  numbered,
  numbered_down,
  numbered_up,
  numbered_to,
  number_turn,
  Walked,
  walked,
  number_walk,
}
use Rattle.renumber_exact.specs.Columns.{past}
use Rattle.renumber_exact.specs.Places.{row_of, is_down, Stands, turn_stands}
use Rattle.renumber_exact.specs.SizeWalkExact.{LinksIn, more_one}
use Rattle.renumber_exact.specs.NumberColumns.{Numbered, row_stored}

-- The step

module _ {k : Links} {path : ℕ → ℕ} {f : List ℕ} (j : LinksIn k f) (paths : (y : ℕ) → field_at f y path_place ≡ path y) where
  light_same : (v c : ℕ) → light_or_last f (path v) c ≡ light_from path k.next v c
  unfolding light_or_last light_from
  light_same v c = rw (j.nexts c) refl

  sibling_stands : (v p : ℕ) → Stands (sibling_or_up f v p) (turn p (pick (eqb v (path p)) none (light_from path k.next p (k.next v))))
  unfolding sibling_or_up
  sibling_stands v p = rw (paths p, j.nexts v, light_same p (k.next v)) (go (eqb v (path p)))
    where
      go : (b : Bool) → Stands (pick b (up_of p) (turn_to p (light_from path k.next p (k.next v)))) (turn p (pick b none (light_from path k.next p (k.next v))))
      go true = record { row = refl; down = refl }
      go false = turn_stands p (light_from path k.next p (k.next v))

  heavy_stands : (q : Position) → Stands (heavy_step f (row_of q) (is_down q)) (move (heavy_last k path) q)
  unfolding heavy_step heavy_last
  heavy_stands (down v) = rw (paths v, j.firsts v, light_same v (k.first v)) (turn_stands v (light_from path k.next v (k.first v)))
  heavy_stands (up v) = rw (j.parents v) (sibling_stands v (k.parent v))

-- The walk

abbrev pub number_step : Standing → Standing
number_step q = number_turn q.parts q.place

pub number_turns : (steps : ℕ) (q : Standing) → number_walk steps q.parts q.place ≡ walked (turns number_step steps q).parts (turns number_step steps q).place.given
unfolding number_walk
number_turns zero q = refl
number_turns (suc steps) q = number_turns steps (number_step q)

-- with the visit at p done, the walk has what t carries, and stands at p
pub record HasNumbers (c : ℕ) (b : List ℕ) (p : Position) (t : Carried) (q : Standing) : Type 0 where
  pub numbers : Numbered c b q.parts t.numbers
  pub row : q.place.row ≡ row_of p
  pub down : q.place.down ≡ is_down p
  pub above : upper_of q.parts.fields q.place ≡ t.top
  pub given : q.place.given ≡ t.given

to_down : (w : Written) (u : Numbering) (p : Place) (x : ℕ) → p.row ≡ x → p.down ≡ true → numbered_to w u p ≡ numbered_down w u x
unfolding numbered_to
to_down w u p x r d = rw (d, r)

to_up : (w : Written) (u : Numbering) (p : Place) (x : ℕ) → p.row ≡ x → p.down ≡ false → numbered_to w u p ≡ numbered_up w u x
unfolding numbered_to
to_up w u p x r d = rw (d, r)

module _ {c : ℕ} {b : List ℕ} (k : Links) (path : ℕ → ℕ) (j : LinksIn k b) (paths : (y : ℕ) → field_at b y path_place ≡ path y)
    {p : Position} {t : Carried} {q : Standing} (i : HasNumbers c b p t q) where
  kept : (y e : ℕ) → e < field_stride → e ≢ upper_place → e ≢ size_place → e ≢ set_size_place → field_at q.parts.fields y e ≡ field_at b y e
  kept = i.numbers.rest

  links_kept : LinksIn k q.parts.fields
  links_kept = record {
    parents = λ y. kept y parent_place (omega arith) (λ e. omega arith) (λ e. omega arith) (λ e. omega arith) ∙ j.parents y;
    firsts = λ y. kept y first_place (omega arith) (λ e. omega arith) (λ e. omega arith) (λ e. omega arith) ∙ j.firsts y;
    nexts = λ y. kept y next_place (omega arith) (λ e. omega arith) (λ e. omega arith) (λ e. omega arith) ∙ j.nexts y;
  }

  paths_kept : (y : ℕ) → field_at q.parts.fields y path_place ≡ path y
  paths_kept y = kept y path_place (omega arith) (λ e. omega arith) (λ e. omega arith) (λ e. omega arith) ∙ paths y

  stands : Stands (heavy_step q.parts.fields q.place.row q.place.down) (move (heavy_last k path) p)
  stands = rw (i.row, i.down) (heavy_stands links_kept paths_kept p)

  on_path : (x : ℕ) → is_on_path q.parts.fields x ≡ eqb (path (k.parent x)) x
  unfolding is_on_path
  on_path x = rw (links_kept.parents x, paths_kept (k.parent x)) refl

  size_at_lem : (x : ℕ) → size_at q.parts.fields x (is_on_path q.parts.fields x) ≡ size_of k.parent path t.numbers x
  unfolding size_at size_of
  size_at_lem x = rw (on_path x, i.numbers.size x) refl

  -- down into x, below the apex that is carried
  down_stored : (x : ℕ) → x < c → t.top < c → t.given < 65535
      → end_of (t.numbers.next_free t.top) (size_of k.parent path t.numbers x) ≤ limit
      → HasNumbers c b (down x) ((carried_visit k.parent path).enter x t) (numbered_down q.parts q.place x)
  unfolding numbered_down carried_visit numbered_below upper_of
  down_stored x l o g m = record {
    numbers = rw (i.above, size_at_lem x) (row_stored i.numbers x t.top (t.numbers.next_free t.top) (size_of k.parent path t.numbers x) l (inr o)
        (i.numbers.next_free t.top (λ e. omega (arith, i.numbers.fields.most))) m);
    row = refl;
    down = refl;
    above = rw (on_path x, i.above) refl;
    given = more_one q.place.given (omega (arith, i.given)) ∙ ap (λ (z : ℕ). z + 1) i.given;
  }

  -- up out of x
  up_stored : (x : ℕ) → HasNumbers c b (up x) ((carried_visit k.parent path).leave x t) (numbered_up q.parts q.place x)
  unfolding carried_visit upper_of
  up_stored x = record { numbers = i.numbers; row = refl; down = refl; above = i.numbers.upper x; given = i.given }

  pub turn_entered : (x : ℕ) → move (heavy_last k path) p ≡ down x → x < c → t.top < c → t.given < 65535
      → end_of (t.numbers.next_free t.top) (size_of k.parent path t.numbers x) ≤ limit
      → HasNumbers c b (down x) ((carried_visit k.parent path).enter x t) (number_step q)
  turn_entered x e l o g m = rw (to_down q.parts q.place _ x (stands.row ∙ ap row_of e) (stands.down ∙ ap is_down e)) (down_stored x l o g m)

  pub turn_left : (x : ℕ) → move (heavy_last k path) p ≡ up x → HasNumbers c b (up x) ((carried_visit k.parent path).leave x t) (number_step q)
  turn_left x e = rw (to_up q.parts q.place _ x (stands.row ∙ ap row_of e) (stands.down ∙ ap is_down e)) (up_stored x)

module _ {m : Layer} {h : ℕ} (g : Renumberable m h) {s : Sizing} (sized : Sized (parent m) (depth m) m.count h (sizes_of m) s) {c : ℕ} {b : List ℕ}
    (fit : m.count ≤ c) (j : LinksIn (links_of m) b) (paths : (y : ℕ) → field_at b y path_place ≡ s.path y)
    {w : Written} (first : Numbered c b w (numbers_of m s.size))
    (within : (x : ℕ) → x < m.count → Below m h x → end_of ((last_numbers g sized).start x) ((last_numbers g sized).set_size x) ≤ limit) where
  few : rows m h < 65535
  few = omega (arith, size_count (parent m) (depth m) m.count h, first.fields.most)

  -- the head is placed before the first step
  head_link : (upper m h ≡ none) ⊎ (upper m h < c)
  head_link = elim (ℕ_discrete (upper m h) none) [
    | yes e ↦ inl e
    | no d ↦ inr (omega (arith, (uppers g.trees).inside h g.in_use d))
  ]

  head_start_lem : number_at w.numbers (upper m h) next_free_place ≡ head_start (numbers_of m s.size) h
  unfolding head_start
  head_start_lem = elim (ℕ_discrete (upper m h) none) [
    | yes e ↦ rw e (past first.numbers none next_free_place (omega (arith, first.numbers.most)))
    | no d ↦ rw (ne_eqb (upper m h) none d) (first.next_free (upper m h) d)
  ]

  head_within : end_of (head_start (numbers_of m s.size) h) (s.size h) ≤ limit
  head_within =
      let d = (last_placed g sized).done in
      let e : (last_numbers g sized).set_size h ≡ s.size h = d.set_sizes h d.head ∙ d.size_apex h d.head (sized_start g sized).apex in
      rw (← e, ← d.start_head) (within h g.in_use here)

  abbrev begun : Standing
  begun = numbered (row_numbered w h (upper m h) (rows m h)) (record { row = h; down = true; apex = h; given = 1 })

  begun_has : HasNumbers c b (down h) record { numbers = head_placed h (numbers_of m s.size); top = h; given = 1 } begun
  unfolding head_placed upper_of
  begun_has = record {
    numbers = rw (← sized.size_in h g.in_use here) (row_stored first h (upper m h) (head_start (numbers_of m s.size) h) (s.size h) (omega (arith, g.in_use)) head_link
        head_start_lem head_within);
    row = refl;
    down = refl;
    above = refl;
    given = refl;
  }

  -- the apex that is carried down into a row is in use
  top_in : (x : ℕ) → Under m h x → (t : Carried) → Coming (parent m) s.path (last_numbers g sized) (rows m h) x t → t.top < c
  top_in x u t z =
      let d = last_placed g sized in
      omega (arith, z.lasting.upper, d.done.in_use _ (d.done.uppers x (d.every x u.in_use u.below) u.other))

  turning : Turning (heavy_last (links_of m) s.path) number_step (carried_visit (parent m) s.path) (Coming (parent m) s.path (last_numbers g sized) (rows m h))
      (λ x t. Unit {0}) (HasNumbers c b) (Under m h)
  turning = record {
    enter = λ x u p e t q z i. turn_entered (links_of m) s.path j paths i x e (omega (arith, u.in_use)) (top_in x u t z) (omega (arith, few, z.few))
        (rw (z.lasting.start, z.lasting.set_size) (within x u.in_use u.below));
    leave = λ x u p e t q z i. turn_left (links_of m) s.path j paths i x e;
  }

  done : HasNumbers c b (up h) record { numbers = last_numbers g sized; top = (last_numbers g sized).upper h; given = rows m h } (turns number_step (2 * rows m h - 1) begun)
  done = numbers_walked g sized number_step (HasNumbers c b) turning (λ p e t q i. turn_left (links_of m) s.path j paths i h e) begun begun_has

  -- what the walk leaves
  abbrev pub numbers_after : Walked
  numbers_after = number_walk (steps_of (rows m h)) (row_numbered w h (upper m h) (rows m h)) (record { row = h; down = true; apex = h; given = 1 })

  same : numbers_after ≡ walked (turns number_step (2 * rows m h - 1) begun).parts (turns number_step (2 * rows m h - 1) begun).place.given
  same = let n : rows m h * 2 - 1 ≡ 2 * rows m h - 1 = omega arith in rw n (number_turns (2 * rows m h - 1) begun)

  pub after_numbered : Numbered c b numbers_after.parts (last_numbers g sized)
  after_numbered = rw same done.numbers

  pub after_given : numbers_after.given ≡ rows m h
  after_given = rw same done.given
