-- The lines from the first rows of the trees to their roots, marked in the scratch.
use Rattle.std.specs.Prelude.{◌≡◌, refl, Bool, true, false, ◌||◌, ◌&&◌, not, ◌≢◌, List, ℕ, zero, suc, ◌+◌, ◌-◌, ◌<◌, eqb, length, get_or, set, replicate}
use Rattle.std.proofs.Common.{sym, ◌∙◌, add-one, arith, length-set}
use Rattle.std.proofs.Math.Decide.{ℕ_discrete}
use Rattle.std.proofs.lemmas.Bool.{not-false}
use Rattle.laws.specs.Test.{says_eqb, says_true, says_false}
use Rattle.tree_laws.specs.Ancestor.{none, ancestor_within, is_ancestor}
use Rattle.tree_laws.specs.Top.{top_within, top_of}
use Rattle.table.specs.Table.{Table}
use Rattle.layer.specs.Layer.{parent, depth}
use Rattle.inspect_lines_laws.specs.Lines.{is_in_tree, is_rooted, are_roots, is_level_on}
use Rattle.cells.specs.Cells.{read_put, read_fill}

-- what is met on the way up from the root
abbrev pub met : (ℕ → ℕ) → (ℕ → ℕ) → ℕ → ℕ → Bool
met up depth root x = not (eqb root none) && is_ancestor up depth x root

-- the cells of the rows that are met from the root hold 1, beside those that held it before
pub record Marked (up depth : ℕ → ℕ) (root : ℕ) (before s : List ℕ) : Type 0 where
  pub each : (x : ℕ) → x < length s → eqb (get_or s x 0) 1 ≡ (eqb (get_or before x 0) 1 || met up depth root x)

-- what is met from the root that f records, where f is the first row of a tree; and from the roots of all first rows below m
abbrev pub is_on_line_of : Table → ℕ → ℕ → Bool
is_on_line_of t f x = eqb (parent t.layer f) none && met (parent t.layer) (depth t.layer) (t.root f) x

abbrev pub is_on_lines : Table → ℕ → ℕ → Bool
is_on_lines t zero x = false
is_on_lines t (suc m) x = is_on_lines t m x || is_on_line_of t m x

-- the answer on the root of one tree, and what the scratch holds then
pub record TreeMarked (t : Table) (f : ℕ) (before s : List ℕ) (r : Bool) : Type 0 where
  pub answer : r ≡ is_rooted t f
  pub marks : r ≡ true → (x : ℕ) → x < length s → eqb (get_or s x 0) 1 ≡ (eqb (get_or before x 0) 1 || is_on_line_of t f x)

-- the cell of each row holds 1 exactly when the row is met from the root of a first row below m
pub record LinesTo (t : Table) (m : ℕ) (s : List ℕ) : Type 0 where
  pub each : (x : ℕ) → x < length s → eqb (get_or s x 0) 1 ≡ is_on_lines t m x

-- the answer on all roots, and what the scratch holds then
pub record LinesMarked (t : Table) (s : List ℕ) (r : Bool) : Type 0 where
  pub answer : r ≡ are_roots t
  pub lines : r ≡ true → LinesTo t t.layer.count s

-- the level of x, by its mark
abbrev pub is_level_by_mark : Table → List ℕ → ℕ → Bool
is_level_by_mark t s x = is_level_on t (eqb (get_or s x 0) 1) x

-- on the way: what is marked, and what is met in `left` more steps from z, is what is to be marked
pub record Marking (up : ℕ → ℕ) (goal : ℕ → Bool) (left z : ℕ) (s : List ℕ) : Type 0 where
  pub each : (x : ℕ) → x < length s → (eqb (get_or s x 0) 1 || (not (eqb z none) && ancestor_within up left x z)) ≡ goal x

or_false : (b : Bool) → (b || false) ≡ b
or_false true = refl
or_false false = refl

pub marking_start : (up depth : ℕ → ℕ) (root : ℕ) (s : List ℕ) → Marking up (λ x. eqb (get_or s x 0) 1 || met up depth root x) (depth root) root s
unfolding is_ancestor
marking_start up depth root s = record { each = λ x l. refl }

-- the row z is marked: what was met before, in one step more
module _ {z : ℕ} (s : List ℕ) (d : z ≢ none) where
  mark_one : (x : ℕ) (rest : Bool) {goal : Bool} → x < length s → (eqb (get_or s x 0) 1 || (not (eqb z none) && (eqb x z || rest))) ≡ goal
      → (eqb (get_or (set s z 1) x 0) 1 || rest) ≡ goal
  mark_one x rest l h = elim (ℕ_discrete z x) [
    | yes e ↦ rw (read_put s z 1 x l, says_true (says_eqb z x) e) (sym (or_true (eqb (get_or s x 0) 1)) ∙ (rw (known, says_true (says_eqb x z) (sym e)) at h))
    | no n ↦ rw (read_put s z 1 x l, says_false (says_eqb z x) n) (rw (known, says_false (says_eqb x z) (λ e. n (sym e))) at h)
  ]
    where
      known : eqb z none ≡ false
      known = says_false (says_eqb z none) d

      or_true : (b : Bool) → (b || true) ≡ true
      or_true true = refl
      or_true false = refl

module _ {up : ℕ → ℕ} {goal : ℕ → Bool} {z : ℕ} {s : List ℕ} (d : z ≢ none) where
  -- and the rest is met from the row above
  pub marking_step : (left : ℕ) → left ≢ 0 → Marking up goal left z s → Marking up goal (left - 1) (up z) (set s z 1)
  marking_step zero n m = absurd (n refl)
  marking_step (suc left) n m =
      let e : suc left - 1 ≡ left = omega arith in
      rw e record { each = λ x l. mark_one s d x (not (eqb (up z) none) && ancestor_within up left x (up z)) (rw (length-set s z 1) at l) (m.each x (rw (length-set s z 1) at l)) }

  -- the last row is marked
  pub marking_last : Marking up goal 0 z s → (x : ℕ) → x < length (set s z 1) → eqb (get_or (set s z 1) x 0) 1 ≡ goal x
  marking_last m x l =
      sym (or_false (eqb (get_or (set s z 1) x 0) 1)) ∙ mark_one s d x false (rw (length-set s z 1) at l) (rw (or_false (eqb x z)) (m.each x (rw (length-set s z 1) at l)))

pub marking_end : {up : ℕ → ℕ} {goal : ℕ → Bool} {left z : ℕ} {s : List ℕ} → z ≡ none → Marking up goal left z s
    → (x : ℕ) → x < length s → eqb (get_or s x 0) 1 ≡ goal x
marking_end {z = z} {s = s} e m x l = sym (or_false (eqb (get_or s x 0) 1)) ∙ (rw (says_true (says_eqb z none) e) at (m.each x l))

-- One tree

module _ (t : Table) (f : ℕ) where
  pub tree_below : (s : List ℕ) → parent t.layer f ≢ none → TreeMarked t f s s true
  tree_below s d = record {
    answer = rw (says_false (says_eqb (parent t.layer f) none) d);
    marks = λ e x l. rw (says_false (says_eqb (parent t.layer f) none) d) (sym (or_false (eqb (get_or s x 0) 1)));
  }

  pub tree_stop : (s : List ℕ) → parent t.layer f ≡ none → is_in_tree t.layer f (t.root f) ≡ false → TreeMarked t f s s false
  tree_stop s e n = record { answer = rw (says_true (says_eqb (parent t.layer f) none) e, n); marks = λ z. let y : ◌≡◌ {A = ℕ} 0 1 = cc in absurd (omega arith) }

  pub tree_marked : {s s' : List ℕ} → parent t.layer f ≡ none → is_in_tree t.layer f (t.root f) ≡ true → Marked (parent t.layer) (depth t.layer) (t.root f) s s' → TreeMarked t f s s' true
  tree_marked {s} {s'} e y m = record {
    answer = rw (says_true (says_eqb (parent t.layer f) none) e, y);
    marks = λ z x l. rw (says_true (says_eqb (parent t.layer f) none) e) (m.each x l);
  }

-- All trees

pub lines_none : (t : Table) (n : ℕ) → LinesTo t 0 (replicate n 0)
lines_none t n = record { each = λ x l. rw (read_fill n 0 x l) }

pub lines_more : {t : Table} {m : ℕ} {s s' : List ℕ} {r : Bool} → LinesTo t m s → length s' ≡ length s → TreeMarked t m s s' r → not r ≡ false → LinesTo t (m + 1) s'
lines_more {t} {m} {s} {s'} {r} h e k d =
    rw (add-one m) record { each = λ x l. k.marks (not-false r d) x l ∙ rw (h.each x (omega arith)) }

pub lines_stop : (t : Table) (s : List ℕ) → false ≡ are_roots t → LinesMarked t s false
lines_stop t s e = record { answer = e; lines = λ z. let y : ◌≡◌ {A = ℕ} 0 1 = cc in absurd (omega arith) }

pub lines_end : {t : Table} {s : List ℕ} (m : ℕ) → m ≡ t.layer.count → true ≡ are_roots t → LinesTo t m s → LinesMarked t s true
lines_end m e a h = record { answer = a; lines = λ _. rw e at h }

-- The first row

module _ (up : ℕ → ℕ) where
  pub top_stop : (left z : ℕ) → up z ≡ none → top_within up left z ≡ z
  top_stop zero z e = refl
  top_stop (suc left) z e = rw (says_true (says_eqb (up z) none) e)

  pub top_on : (left z : ℕ) → left ≢ 0 → up z ≢ none → top_within up left z ≡ top_within up (left - 1) (up z)
  top_on zero z n d = absurd (n refl)
  top_on (suc left) z n d = let e : suc left - 1 ≡ left = omega arith in rw (e, says_false (says_eqb (up z) none) d)

pub top_start : (up rank : ℕ → ℕ) (x : ℕ) → top_within up (rank x) x ≡ top_of up rank x
unfolding top_of
top_start up rank x = refl
