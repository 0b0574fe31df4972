-- Both walks as loops of 2 · rows − 1 turns: a loop whose turns do the visits of the walk renumbers the head.
use Rattle.std.specs.Prelude.{◌≡◌, ◌≢◌}
use Rattle.std.proofs.Math.Path.{refl}
use Prim.Native.Nat.{ℕ, suc, ◌+◌, ◌-◌, ◌*◌, ◌≤◌, ◌<◌}
use Rattle.std.proofs.Common.{arith}
use Rattle.laws.specs.Test.{says_true}
use Rattle.tree_laws.specs.Ancestor.{none}
use Rattle.tree_laws.specs.AncestorLaws.{row_some}
use Rattle.tree_laws.specs.CompressedLaws.{says_is_apex}
use Rattle.tree_laws.specs.HeavyLast.{heavy_last, arranged}
use Rattle.tree_laws.specs.HeavyLastLaws.{arranged_below, arranged_count, arranged_in}
use Rattle.tree_laws.specs.Siblings.{Kin, count, In, Distinct, Below as AllBelow}
use Rattle.tree_laws.specs.SiblingsLaws.{in_inside, in_anc, reads_distinct, size_count}
use Rattle.tree_laws.specs.Walk.{Position, down, up, move, sweep}
use Rattle.layer.specs.Layer.{Layer, parent, depth}
use Rattle.join_laws.specs.Lone.{Kept}
use Rattle.join_laws.specs.Renumbered.{Below, rows, Renumbered}
use Rattle.renumber_laws.specs.Sizes.{Sizing, opened, closed, size_visit, size_pass}
use Rattle.renumber_laws.proofs.SizesLaws.{opened_met, through_sizes}
use Rattle.renumber_laws.specs.SizesSwept.{Sized}
use Rattle.renumber_laws.proofs.SizesSwept.{head_not_in, sizes_swept}
use Rattle.renumber_laws.specs.Numbers.{Numbers, head_placed, top_of, number_pass}
use Rattle.renumber_laws.specs.NumbersLaws.{AllPlaced}
use Rattle.renumber_laws.proofs.NumbersLaws.{numbers_swept}
use Rattle.renumber_laws.specs.Carried.{Carried, carried_visit, Coming}
use Rattle.renumber_laws.proofs.CarriedLaws.{sweep_carried, through_carried}
use Rattle.renumber_laws.specs.Loop.{Through, Turning, Came}
use Rattle.renumber_laws.proofs.Loop.{turns}
use Rattle.renumber_laws.proofs.LoopLaws.{turns_add, loop_forest}
use Rattle.renumber_laws.specs.Renumbering.{sizes_of, numbers_of, with_columns, Renumberable}
use Rattle.renumber_laws.proofs.Renumbering.{links_of}
use Rattle.renumber_laws.proofs.RenumberingLaws.{stored_tree, head_below, sized_links, sized_start, both_walks, unused_kept}

-- x lies below the head, and is not the head
pub record Under (m : Layer) (h x : ℕ) : Type 0 where
  pub in_use : x < m.count
  pub below : Below m h x
  pub other : x ≢ h

-- the loop for sizes is about to go up out of h, and by then it has a sizing that is true once h is closed
pub record SizesWalked (m : Layer) (h : ℕ) {Q : Type 0} (Has : Position → Sizing → Q → Type 0) (q : Q) : Type 0 where
  pub sizing : Sizing
  pub came : Came (links_of m) Has h sizing q
  pub sized : Sized (parent m) (depth m) m.count h (sizes_of m) (closed h sizing)

module _ {m : Layer} {h : ℕ} (g : Renumberable m h) where
  -- the rows below the head, in order of arrival
  kin : Kin
  kin = (head_below g).kin

  kin_below : AllBelow (links_of m) m.count h kin
  unfolding kin
  kin_below = (head_below g).is

  rows_count : rows m h ≡ 1 + count kin
  rows_count = size_count (links_of m) (stored_tree g) g.in_use kin_below

  in_under : (x : ℕ) → In kin x → Under m h x
  in_under x z = record {
    in_use = in_inside kin_below.whole z;
    below = in_anc (links_of m) (stored_tree g) g.in_use kin_below z;
    other = λ e. head_not_in (links_of m) (stored_tree g) g.in_use kin_below (rw e at z);
  }

  -- The loop for sizes: its first turn goes down into the head, and it ends before it goes up out of it

  kin_once : Distinct kin
  kin_once = reads_distinct (links_of m) (stored_tree g) g.in_use kin_below.whole kin_below.reads

  pub sizes_walked : {Q : Type 0} (turn : Q → Q) (Has : Position → Sizing → Q → Type 0)
      → Turning (links_of m) turn (size_visit (parent m)) (λ x t. t.met < rows m h) (λ x t. t.size x < t.met) Has (Under m h)
      → (q : Q) → Has (down h) (opened h (sizes_of m)) (turn q) → SizesWalked m h Has (turns turn (2 * rows m h - 1) q)
  unfolding size_pass
  sizes_walked turn Has a q i =
      let n : 2 * rows m h - 1 ≡ suc (2 * count kin) = omega (arith, rows_count) in
      let through = through_sizes (parent m) (opened h (sizes_of m)) (rows m h) kin_once (omega (arith, rows_count, opened_met h (sizes_of m))) in
      rw n record {
        sizing = sweep (size_visit (parent m)) kin (opened h (sizes_of m));
        came = loop_forest (links_of m) turn (size_visit (parent m)) (λ x t. t.met < rows m h) (λ x t. t.size x < t.met) Has a (turn q) (down h)
            kin_below.reads in_under through refl i;
        sized = sizes_swept (links_of m) (stored_tree g) g.in_use kin_below (sizes_of m);
      }

  module _ {s : Sizing} (b : Sized (parent m) (depth m) m.count h (sizes_of m) s) where
    -- the numbers that the second walk ends with
    pub last_numbers : Numbers
    last_numbers = number_pass (parent m) s.path h kin (numbers_of m s.size)

    pub last_placed : AllPlaced (parent m) s.path (heavy_last (links_of m) s.path).next (depth m) m.count h (numbers_of m s.size) last_numbers
    unfolding last_numbers
    last_placed = numbers_swept (links_of m) (sized_start g b) (sized_links g b) kin_below

    pub last_renumbered : Renumbered m (with_columns m s.path last_numbers) h
    last_renumbered = both_walks g b last_placed

    pub last_unused : (x : ℕ) → m.count ≤ x → x ≢ none → Kept m (with_columns m s.path last_numbers) x
    last_unused = unused_kept g b last_placed

    -- The loop for numbers: the head is placed before its first turn, and its last turn goes up out of the head

    -- the rows below the head, the heavy child last
    ordered : Kin
    ordered = arranged s.path h kin

    ordered_below : AllBelow (heavy_last (links_of m) s.path) m.count h ordered
    unfolding ordered
    ordered_below = arranged_below (links_of m) s.path (sized_links g b) g.in_use kin_below

    ordered_count : rows m h ≡ 1 + count ordered
    unfolding ordered
    ordered_count = omega (arith, rows_count, arranged_count s.path h kin)

    ordered_under : (x : ℕ) → In ordered x → Under m h x
    unfolding ordered
    ordered_under x z = in_under x (arranged_in s.path h x kin z)

    ordered_once : Distinct ordered
    unfolding heavy_last
    ordered_once = reads_distinct (heavy_last (links_of m) s.path) (stored_tree g) g.in_use ordered_below.whole ordered_below.reads

    head_out : ¬ In ordered h
    unfolding heavy_last
    head_out = head_not_in (heavy_last (links_of m) s.path) (stored_tree g) g.in_use ordered_below

    head_top : h ≡ top_of (parent m) s.path (head_placed h (numbers_of m s.size)) h
    unfolding top_of
    head_top = rw (says_true (says_is_apex (parent m) s.path h) (sized_start g b).apex)

    begun : Carried
    begun = record { numbers = head_placed h (numbers_of m s.size); top = h; given = 1 }

    carried_swept : sweep (carried_visit (parent m) s.path) ordered begun
        ≡ record { numbers = last_numbers; top = top_of (parent m) s.path last_numbers h; given = rows m h }
    unfolding heavy_last begun last_numbers number_pass ordered
    carried_swept = rw ordered_count (sweep_carried (heavy_last (links_of m) s.path) s.path (head_placed h (numbers_of m s.size)) 1
        (row_some (stored_tree g) g.in_use refl) ordered_below.reads ordered_once head_out head_top)

    carried_through : Through (carried_visit (parent m) s.path) (Coming (parent m) s.path last_numbers (rows m h)) (λ x t. Unit {0}) ordered begun
    unfolding heavy_last begun last_numbers number_pass ordered
    carried_through = through_carried (heavy_last (links_of m) s.path) s.path (head_placed h (numbers_of m s.size)) 1 (rows m h)
        (omega (arith, ordered_count)) (row_some (stored_tree g) g.in_use refl) ordered_below.reads ordered_once head_out head_top

    pub numbers_walked : {Q : Type 0} (turn : Q → Q) (Has : Position → Carried → Q → Type 0)
        → Turning (heavy_last (links_of m) s.path) turn (carried_visit (parent m) s.path) (Coming (parent m) s.path last_numbers (rows m h))
        (λ x t. Unit {0}) Has (Under m h)
        → ((p : Position) → move (heavy_last (links_of m) s.path) p ≡ up h → (t : Carried) (q : Q) → Has p t q
        → Has (up h) ((carried_visit (parent m) s.path).leave h t) (turn q))
        → (q : Q) → Has (down h) record { numbers = head_placed h (numbers_of m s.size); top = h; given = 1 } q
        → Has (up h) record { numbers = last_numbers; top = last_numbers.upper h; given = rows m h } (turns turn (2 * rows m h - 1) q)
    unfolding begun carried_visit
    numbers_walked turn Has a out q i =
        let n : 2 * rows m h - 1 ≡ 2 * count ordered + 1 = omega (arith, ordered_count) in
        let came = loop_forest (heavy_last (links_of m) s.path) turn (carried_visit (parent m) s.path) (Coming (parent m) s.path last_numbers (rows m h))
        (λ x t. Unit {0}) Has a q (down h) ordered_below.reads ordered_under carried_through refl i in
        let last = out came.place came.next (sweep (carried_visit (parent m) s.path) ordered begun) (turns turn (2 * count ordered) q) came.has in
        rw (n, turns_add turn (2 * count ordered) 1 q) (rw carried_swept at last)
