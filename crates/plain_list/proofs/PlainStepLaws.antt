-- What a call does to the plain list: it changes nothing, adds a node where there is room, or links a tree.
use Rattle.std.specs.Prelude.{◌≡◌, refl, Bool, true, false, ◌&&◌, ◌≢◌, ℕ, ◌≤◌, ◌<◌}
use Rattle.std.proofs.Common.{sym, arith}
use borrow.Author.Tests.{lt-ltb, le-ltb, le-leb, lt-leb, eq-eqb, ne_eqb}
use Rattle.laws.specs.Test.{Says, holds, fails, says_false, says_not, says_and, says_eqb, says_ltb, says_leb, pick, bit}
use Rattle.tree_laws.specs.Ancestor.{none}
use Rattle.tree_laws.specs.Answer.{Answer}
use Rattle.plain_list.specs.PlainList.{PlainList, count_of, parent_of, label_of, with_first, with_leaf, with_root, with_link}
use Rattle.plain_list.specs.Naive.{naive_answer, naive_same}
use Rattle.plain_list.specs.PlainStep.{PlainCall, first, leaf, root, root_over, link, question, alike, inspection}
use Rattle.plain_list.specs.PlainStep.{PlainReply, refusal, node, linked, answered, same, passes, PlainOutcome, replies, refusal_of, unless, grows}
use Rattle.plain_list.specs.PlainStep.{both_known, largest_label, is_label, is_opening, largest_face, is_face, least_scratch, has_room, root_in, tree_count, naive_alike, asked, plain_outcome, plain_step, plain_after}

pub says_both_known : (p : PlainList) (x y : ℕ) → Says ((x < count_of p) × (y < count_of p)) (both_known p x y)
says_both_known p x y = says_and (says_ltb x (count_of p)) (λ _. says_ltb y (count_of p))

says_label : (l : ℕ) → Says ((1 ≤ l) × (l ≤ largest_label)) (is_label l)
says_label l = says_and (says_leb 1 l) (λ _. says_leb l largest_label)

says_face : (f : ℕ) → Says (f ≤ largest_face) (is_face f)
says_face f = says_leb f largest_face

says_itself : (b : Bool) → Says (b ≡ true) b
says_itself true = holds refl
says_itself false = fails (λ e. let z : ◌≡◌ {A = ℕ} 0 1 = cc in omega arith)

-- The services

module _ (capacity : ℕ) (p : PlainList) where
  pub first_served : (s : ℕ) → least_scratch ≤ s → count_of p ≢ capacity → plain_outcome capacity p (first s) ≡ grows p (with_first p)
  unfolding plain_outcome
  first_served s e d = rw (le-leb least_scratch s e, ne_eqb (count_of p) capacity d)

  pub leaf_served : (v l f s : ℕ) → least_scratch ≤ s → v < count_of p → 1 ≤ l → l ≤ largest_label → f ≤ largest_face → count_of p ≢ capacity
      → plain_outcome capacity p (leaf v l f s) ≡ grows p (with_leaf p v l f)
  unfolding plain_outcome
  leaf_served v l f s e h i j k d = rw (
    le-leb least_scratch s e,
    lt-ltb v (count_of p) h,
    le-leb 1 l i,
    le-leb l largest_label j,
    le-leb f largest_face k,
    ne_eqb (count_of p) capacity d,
  )

  -- 01's new root, where there is no node and where there is one
  pub root_served_first : (named : Bool) (opening s : ℕ) → least_scratch ≤ s → is_opening named opening ≡ true → count_of p ≢ capacity → count_of p ≡ 0
      → plain_outcome capacity p (root named opening s) ≡ grows p (with_first p)
  unfolding plain_outcome
  root_served_first named opening s e o d z = rw (le-leb least_scratch s e, o, ne_eqb (count_of p) capacity d, eq-eqb (count_of p) 0 z)

  pub root_served : (named : Bool) (opening s : ℕ) → least_scratch ≤ s → is_opening named opening ≡ true → count_of p ≢ capacity → count_of p ≢ 0
      → plain_outcome capacity p (root named opening s) ≡ grows p (with_root p (root_in p 0) named opening)
  unfolding plain_outcome
  root_served named opening s e o d z = rw (le-leb least_scratch s e, o, ne_eqb (count_of p) capacity d, ne_eqb (count_of p) 0 z)

  pub over_served : (x : ℕ) (named : Bool) (opening s : ℕ) → least_scratch ≤ s → x < count_of p → is_opening named opening ≡ true → parent_of p x ≡ none
      → count_of p ≢ capacity → plain_outcome capacity p (root_over x named opening s) ≡ grows p (with_root p x named opening)
  unfolding plain_outcome
  over_served x named opening s e h o r d =
      rw (le-leb least_scratch s e, lt-ltb x (count_of p) h, o, eq-eqb (parent_of p x) none r, ne_eqb (count_of p) capacity d)

  pub link_served : (x v door s : ℕ) → s ≡ capacity → x < count_of p → v < count_of p → 1 ≤ door → door ≤ largest_label → parent_of p x ≡ none → root_in p v ≢ x
      → plain_outcome capacity p (link x v door s) ≡ record { reply = linked; after = with_link p x v door; joined = tree_count p x }
  unfolding plain_outcome
  link_served x v door s e h i j k r d = rw (
    eq-eqb s capacity e,
    lt-ltb x (count_of p) h,
    lt-ltb v (count_of p) i,
    le-leb 1 door j,
    le-leb door largest_label k,
    eq-eqb (parent_of p x) none r,
    ne_eqb (root_in p v) x d,
  )

  pub question_served : (x y : ℕ) → x < count_of p → y < count_of p → root_in p x ≡ root_in p y
      → plain_outcome capacity p (question x y) ≡ replies (answered (naive_answer (parent_of p) (label_of p) (count_of p) x y)) p
  unfolding plain_outcome
  question_served x y i j e = rw (lt-ltb x (count_of p) i, lt-ltb y (count_of p) j, eq-eqb (root_in p x) (root_in p y) e)

  pub alike_served : (x y : ℕ) → x < count_of p → y < count_of p → root_in p x ≡ root_in p y
      → plain_outcome capacity p (alike x y) ≡ replies (same (bit (naive_alike p x y))) p
  unfolding plain_outcome
  alike_served x y i j e = rw (lt-ltb x (count_of p) i, lt-ltb y (count_of p) j, eq-eqb (root_in p x) (root_in p y) e)

  pub inspection_served : (s : ℕ) → s ≡ capacity → plain_outcome capacity p (inspection s) ≡ replies passes p
  unfolding plain_outcome
  inspection_served s e = rw (eq-eqb s capacity e)

-- The refusals: the first that applies

module _ (capacity : ℕ) (p : PlainList) where
  pub first_misfit : (s : ℕ) → s < least_scratch → plain_outcome capacity p (first s) ≡ refusal_of 3 p
  unfolding plain_outcome
  first_misfit s d = rw (lt-leb least_scratch s d)

  pub first_full : (s : ℕ) → least_scratch ≤ s → count_of p ≡ capacity → plain_outcome capacity p (first s) ≡ refusal_of 2 p
  unfolding plain_outcome
  first_full s e f = rw (le-leb least_scratch s e, eq-eqb (count_of p) capacity f)

  pub leaf_misfit : (v l f s : ℕ) → s < least_scratch → plain_outcome capacity p (leaf v l f s) ≡ refusal_of 3 p
  unfolding plain_outcome
  leaf_misfit v l f s d = rw (lt-leb least_scratch s d)

  pub leaf_unknown : (v l f s : ℕ) → least_scratch ≤ s → count_of p ≤ v → plain_outcome capacity p (leaf v l f s) ≡ refusal_of 1 p
  unfolding plain_outcome
  leaf_unknown v l f s e h = rw (le-leb least_scratch s e, le-ltb v (count_of p) h)

  pub leaf_no_label : (v l f s : ℕ) → least_scratch ≤ s → v < count_of p → ¬ ((1 ≤ l) × (l ≤ largest_label)) → plain_outcome capacity p (leaf v l f s) ≡ refusal_of 5 p
  unfolding plain_outcome
  leaf_no_label v l f s e h d = rw (le-leb least_scratch s e, lt-ltb v (count_of p) h, says_false (says_label l) d)

  pub leaf_no_face : (v l f s : ℕ) → least_scratch ≤ s → v < count_of p → 1 ≤ l → l ≤ largest_label → ¬ (f ≤ largest_face)
      → plain_outcome capacity p (leaf v l f s) ≡ refusal_of 13 p
  unfolding plain_outcome
  leaf_no_face v l f s e h i j d =
      rw (le-leb least_scratch s e, lt-ltb v (count_of p) h, le-leb 1 l i, le-leb l largest_label j, says_false (says_face f) d)

  pub leaf_full : (v l f s : ℕ) → least_scratch ≤ s → v < count_of p → 1 ≤ l → l ≤ largest_label → f ≤ largest_face → count_of p ≡ capacity
      → plain_outcome capacity p (leaf v l f s) ≡ refusal_of 2 p
  unfolding plain_outcome
  leaf_full v l f s e h i j k z = rw (
    le-leb least_scratch s e,
    lt-ltb v (count_of p) h,
    le-leb 1 l i,
    le-leb l largest_label j,
    le-leb f largest_face k,
    eq-eqb (count_of p) capacity z,
  )

  pub root_misfit : (named : Bool) (opening s : ℕ) → s < least_scratch → plain_outcome capacity p (root named opening s) ≡ refusal_of 3 p
  unfolding plain_outcome
  root_misfit named opening s d = rw (lt-leb least_scratch s d)

  pub root_no_label : (named : Bool) (opening s : ℕ) → least_scratch ≤ s → is_opening named opening ≡ false
      → plain_outcome capacity p (root named opening s) ≡ refusal_of 5 p
  unfolding plain_outcome
  root_no_label named opening s e o = rw (le-leb least_scratch s e, o)

  pub root_full : (named : Bool) (opening s : ℕ) → least_scratch ≤ s → is_opening named opening ≡ true → count_of p ≡ capacity
      → plain_outcome capacity p (root named opening s) ≡ refusal_of 2 p
  unfolding plain_outcome
  root_full named opening s e o f = rw (le-leb least_scratch s e, o, eq-eqb (count_of p) capacity f)

  pub over_misfit : (x : ℕ) (named : Bool) (opening s : ℕ) → s < least_scratch → plain_outcome capacity p (root_over x named opening s) ≡ refusal_of 3 p
  unfolding plain_outcome
  over_misfit x named opening s d = rw (lt-leb least_scratch s d)

  pub over_unknown : (x : ℕ) (named : Bool) (opening s : ℕ) → least_scratch ≤ s → count_of p ≤ x
      → plain_outcome capacity p (root_over x named opening s) ≡ refusal_of 1 p
  unfolding plain_outcome
  over_unknown x named opening s e h = rw (le-leb least_scratch s e, le-ltb x (count_of p) h)

  pub over_no_label : (x : ℕ) (named : Bool) (opening s : ℕ) → least_scratch ≤ s → x < count_of p → is_opening named opening ≡ false
      → plain_outcome capacity p (root_over x named opening s) ≡ refusal_of 5 p
  unfolding plain_outcome
  over_no_label x named opening s e h o = rw (le-leb least_scratch s e, lt-ltb x (count_of p) h, o)

  pub over_no_root : (x : ℕ) (named : Bool) (opening s : ℕ) → least_scratch ≤ s → x < count_of p → is_opening named opening ≡ true → parent_of p x ≢ none
      → plain_outcome capacity p (root_over x named opening s) ≡ refusal_of 10 p
  unfolding plain_outcome
  over_no_root x named opening s e h o d = rw (le-leb least_scratch s e, lt-ltb x (count_of p) h, o, ne_eqb (parent_of p x) none d)

  pub over_full : (x : ℕ) (named : Bool) (opening s : ℕ) → least_scratch ≤ s → x < count_of p → is_opening named opening ≡ true → parent_of p x ≡ none
      → count_of p ≡ capacity → plain_outcome capacity p (root_over x named opening s) ≡ refusal_of 2 p
  unfolding plain_outcome
  over_full x named opening s e h o r f =
      rw (le-leb least_scratch s e, lt-ltb x (count_of p) h, o, eq-eqb (parent_of p x) none r, eq-eqb (count_of p) capacity f)

  pub question_unknown : (x y : ℕ) → ¬ ((x < count_of p) × (y < count_of p)) → plain_outcome capacity p (question x y) ≡ refusal_of 1 p
  unfolding plain_outcome
  question_unknown x y d = rw (says_false (says_both_known p x y) d)

  pub question_apart : (x y : ℕ) → x < count_of p → y < count_of p → root_in p x ≢ root_in p y → plain_outcome capacity p (question x y) ≡ refusal_of 12 p
  unfolding plain_outcome
  question_apart x y i j d = rw (lt-ltb x (count_of p) i, lt-ltb y (count_of p) j, ne_eqb (root_in p x) (root_in p y) d)

  pub alike_unknown : (x y : ℕ) → ¬ ((x < count_of p) × (y < count_of p)) → plain_outcome capacity p (alike x y) ≡ refusal_of 1 p
  unfolding plain_outcome
  alike_unknown x y d = rw (says_false (says_both_known p x y) d)

  pub alike_apart : (x y : ℕ) → x < count_of p → y < count_of p → root_in p x ≢ root_in p y → plain_outcome capacity p (alike x y) ≡ refusal_of 12 p
  unfolding plain_outcome
  alike_apart x y i j d = rw (lt-ltb x (count_of p) i, lt-ltb y (count_of p) j, ne_eqb (root_in p x) (root_in p y) d)

  pub inspection_misfit : (s : ℕ) → s ≢ capacity → plain_outcome capacity p (inspection s) ≡ refusal_of 3 p
  unfolding plain_outcome
  inspection_misfit s d = rw (ne_eqb s capacity d)

-- and of a link
module _ (capacity : ℕ) (p : PlainList) (x v door s : ℕ) where
  pub link_misfit : s ≢ capacity → plain_outcome capacity p (link x v door s) ≡ refusal_of 3 p
  unfolding plain_outcome
  link_misfit d = rw (ne_eqb s capacity d)

  module _ (e : s ≡ capacity) where
    pub link_unknown : ¬ ((x < count_of p) × (v < count_of p)) → plain_outcome capacity p (link x v door s) ≡ refusal_of 1 p
    unfolding plain_outcome
    link_unknown d = rw (eq-eqb s capacity e, says_false (says_both_known p x v) d)

    module _ (h : x < count_of p) (i : v < count_of p) where
      pub link_no_label : ¬ ((1 ≤ door) × (door ≤ largest_label)) → plain_outcome capacity p (link x v door s) ≡ refusal_of 5 p
      unfolding plain_outcome
      link_no_label d = rw (eq-eqb s capacity e, lt-ltb x (count_of p) h, lt-ltb v (count_of p) i, says_false (says_label door) d)

      module _ (j : 1 ≤ door) (k : door ≤ largest_label) where
        pub link_no_root : parent_of p x ≢ none → plain_outcome capacity p (link x v door s) ≡ refusal_of 10 p
        unfolding plain_outcome
        link_no_root d =
            rw (eq-eqb s capacity e, lt-ltb x (count_of p) h, lt-ltb v (count_of p) i, le-leb 1 door j, le-leb door largest_label k, ne_eqb (parent_of p x) none d)

        pub link_own_tree : parent_of p x ≡ none → root_in p v ≡ x → plain_outcome capacity p (link x v door s) ≡ refusal_of 11 p
        unfolding plain_outcome
        link_own_tree r f = rw (
          eq-eqb s capacity e,
          lt-ltb x (count_of p) h,
          lt-ltb v (count_of p) i,
          le-leb 1 door j,
          le-leb door largest_label k,
          eq-eqb (parent_of p x) none r,
          eq-eqb (root_in p v) x f,
        )

-- All calls

-- the outcome of a call on p: nothing changed, a first node, a leaf, a new root over that of node 0's tree or over a named one, a link
pub data Does (capacity : ℕ) (p : PlainList) : PlainCall → PlainOutcome → Type 0 where
  nothing : {q : PlainCall} {r : PlainReply} → r ≢ linked → Does capacity p q (replies r p)
  adds_first : {q : PlainCall} → count_of p ≢ capacity → Does capacity p q (grows p (with_first p))
  adds_leaf : {q : PlainCall} {v l f : ℕ} → v < count_of p → 1 ≤ l → l ≤ largest_label → f ≤ largest_face → count_of p ≢ capacity
      → Does capacity p q (grows p (with_leaf p v l f))
  adds_root : {named : Bool} {opening s : ℕ} → count_of p ≢ 0 → count_of p ≢ capacity
      → Does capacity p (root named opening s) (grows p (with_root p (root_in p 0) named opening))
  adds_over : {r : ℕ} {named : Bool} {opening s : ℕ} → r < count_of p → parent_of p r ≡ none → count_of p ≢ capacity
      → Does capacity p (root_over r named opening s) (grows p (with_root p r named opening))
  joins : {x v door s : ℕ} → x < count_of p → v < count_of p → 1 ≤ door → door ≤ largest_label → parent_of p x ≡ none → root_in p v ≢ x
      → Does capacity p (link x v door s) (record { reply = linked; after = with_link p x v door; joined = tree_count p x })

-- a reply that does not say that a tree was linked
refused_unlinked : (n : ℕ) → refusal n ≢ linked
refused_unlinked n e = let z : ◌≡◌ {A = ℕ} 0 1 = cc in omega arith

pub node_unlinked : (n : ℕ) → node n ≢ linked
node_unlinked n e = let z : ◌≡◌ {A = ℕ} 0 1 = cc in omega arith

answered_unlinked : (a : Answer) → answered a ≢ linked
answered_unlinked a e = let z : ◌≡◌ {A = ℕ} 0 1 = cc in omega arith

same_unlinked : (b : ℕ) → same b ≢ linked
same_unlinked b e = let z : ◌≡◌ {A = ℕ} 0 1 = cc in omega arith

passes_unlinked : passes ≢ linked
passes_unlinked e = let z : ◌≡◌ {A = ℕ} 0 1 = cc in omega arith

module _ (capacity : ℕ) (p : PlainList) where
  checked : {A : Type 0} {b : Bool} {q : PlainCall} {o : PlainOutcome} (n : ℕ) → Says A b → (A → Does capacity p q o)
      → Does capacity p q (unless b n p o)
  checked n (holds a) f = f a
  checked n (fails d) f = nothing (refused_unlinked n)

  either : {A : Type 0} {b : Bool} {q : PlainCall} {o u : PlainOutcome} → Says A b → (A → Does capacity p q o) → ((A → ⊥) → Does capacity p q u)
      → Does capacity p q (pick b o u)
  either (holds a) f g = f a
  either (fails d) f g = g d

  asks : {q : PlainCall} (x y : ℕ) (r : PlainReply) → r ≢ linked → Does capacity p q (asked p x y r)
  asks x y r d = checked 1 (says_both_known p x y) (λ _. checked 12 (says_eqb (root_in p x) (root_in p y)) (λ _. nothing d))

  room : Says (count_of p ≢ capacity) (has_room capacity p)
  room = says_not (says_eqb (count_of p) capacity)

  pub call_does : (q : PlainCall) → Does capacity p q (plain_outcome capacity p q)
  unfolding plain_outcome
  call_does (first s) = checked 3 (says_leb least_scratch s) (λ _. checked 2 room adds_first)
  call_does (leaf v l f s) =
      checked 3 (says_leb least_scratch s) (λ _.
      checked 1 (says_ltb v (count_of p)) (λ h.
      checked 5 (says_label l) (λ i.
      checked 13 (says_face f) (λ j.
      checked 2 room (λ d. adds_leaf h i.0 i.1 j d)))))
  call_does (root named opening s) =
      checked 3 (says_leb least_scratch s) (λ _.
      checked 5 (says_itself (is_opening named opening)) (λ _.
      checked 2 room (λ d.
      either (says_eqb (count_of p) 0) (λ _. adds_first d) (λ z. adds_root z d))))
  call_does (root_over x named opening s) =
      checked 3 (says_leb least_scratch s) (λ _.
      checked 1 (says_ltb x (count_of p)) (λ h.
      checked 5 (says_itself (is_opening named opening)) (λ _.
      checked 10 (says_eqb (parent_of p x) none) (λ r.
      checked 2 room (λ d. adds_over h r d)))))
  call_does (link x v door s) =
      checked 3 (says_eqb s capacity) (λ _.
      checked 1 (says_both_known p x v) (λ h.
      checked 5 (says_label door) (λ i.
      checked 10 (says_eqb (parent_of p x) none) (λ r.
      checked 11 (says_not (says_eqb (root_in p v) x)) (λ d. joins h.0 h.1 i.0 i.1 r d)))))
  call_does (question x y) = asks x y _ (answered_unlinked (naive_answer (parent_of p) (label_of p) (count_of p) x y))
  call_does (alike x y) = asks x y _ (same_unlinked (bit (naive_alike p x y)))
  call_does (inspection s) = checked 3 (says_eqb s capacity) (λ _. nothing passes_unlinked)

  -- a refusal changes nothing
  pub refusal_keeps : (q : PlainCall) (n : ℕ) → plain_step capacity p q ≡ refusal n → plain_after capacity p q ≡ p
  refusal_keeps q n e = go (call_does q) e
    where
      not_node : {m : ℕ} → node m ≢ refusal n
      not_node e = let z : ◌≡◌ {A = ℕ} 0 1 = cc in omega arith

      go : {q : PlainCall} {o : PlainOutcome} → Does capacity p q o → o.reply ≡ refusal n → o.after ≡ p
      go (nothing d) e = refl
      go (adds_first d) e = absurd (not_node e)
      go (adds_leaf h i j k d) e = absurd (not_node e)
      go (adds_root z d) e = absurd (not_node e)
      go (adds_over h r d) e = absurd (not_node e)
      go (joins h i j k r d) e = absurd (refused_unlinked n (sym e))

-- Alike

first_of : (b c : Bool) → b && c ≡ true → b ≡ true
first_of true c e = refl
first_of false c e = e

-- alike by labels and faces is alike by labels (02: "so every pair alike after this change was alike before it")
pub alike_by_labels : (p : PlainList) (x y : ℕ) → naive_alike p x y ≡ true → naive_same (parent_of p) (label_of p) (count_of p) x y ≡ true
alike_by_labels p x y = first_of _ _
