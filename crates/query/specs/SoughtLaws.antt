-- The tree that is sought: by its tests, and by the few numbers that it is read off.
use Rattle.std.specs.Prelude.{◌≡◌, refl, Bool, true, false, ◌||◌, ◌≢◌, Result, Ok, Err, List, ℕ, eqb, ltb}
use Rattle.std.proofs.Common.{sym, ap, ◌∙◌, eq-eqb, ne_eqb}
use Rattle.laws.specs.Test.{pick}
use Rattle.tree_laws.specs.Ancestor.{none}
use Rattle.layer.specs.Layout.{tree_place}
use Rattle.layer.specs.Row.{entry_at, field_at}
use Rattle.table.specs.declared.refusal.Refusal.{Refusal}
use Rattle.table.specs.declared.refusal.Refusal.TheVariants.{Corrupt, OtherTree}
use Rattle.table.specs.Layout.{root_place}
use Rattle.table.specs.Tree.{tree_at, root_of}
use Rattle.query.specs.Sought.{found_root, sought_in, on_sought}

-- by its tests, in their order, from the first rows v and w of the trees of x and y and the root o
module _ (f a : List ℕ) (n x y : ℕ) {v : ℕ} (left : v ≡ tree_at a n x) where
  pub sought_lost_x : v ≡ none → Err Corrupt ≡ sought_in f a n x y
  unfolding sought_in
  sought_lost_x e = rw (← left, eq-eqb v none e)

  module _ (some : v ≢ none) {w : ℕ} (right : w ≡ tree_at a n y) where
    pub sought_lost_y : w ≡ none → Err Corrupt ≡ sought_in f a n x y
    unfolding sought_in
    sought_lost_y e = rw (← left, ← right, ne_eqb v none some, eq-eqb w none e)

    module _ (there : w ≢ none) where
      pub sought_other : v ≢ w → Err OtherTree ≡ sought_in f a n x y
      unfolding sought_in
      sought_other d = rw (← left, ← right, ne_eqb v none some, ne_eqb w none there, ne_eqb v w d)

      module _ (same : v ≡ w) {o : ℕ} (root : o ≡ root_of f n v) where
        sought_found : found_root o ≡ sought_in f a n x y
        unfolding sought_in
        sought_found = rw (← left, ← right, ← root, ne_eqb v none some, ne_eqb w none there, eq-eqb v w same)

        pub sought_no_root : o ≡ none → Err Corrupt ≡ sought_in f a n x y
        sought_no_root e = ap (λ b. pick b (Err Corrupt) (Ok o)) (sym (eq-eqb o none e)) ∙ sought_found

        pub sought_root : o ≢ none → Ok o ≡ sought_in f a n x y
        sought_root d = ap (λ b. pick b (Err Corrupt) (Ok o)) (sym (ne_eqb o none d)) ∙ sought_found

-- a root that is found is the one that the first row of the tree records
pub sought_at : (f a : List ℕ) (n x y : ℕ) {A : Type 0} (g h : ℕ → A) (refused : Refusal → A)
    → g (field_at f (entry_at a x tree_place) root_place) ≡ h (field_at f (entry_at a x tree_place) root_place)
    → on_sought (sought_in f a n x y) g refused ≡ on_sought (sought_in f a n x y) h refused
unfolding sought_in
sought_at f a n x y {A} g h refused e = go (ltb v n) (tree_at a n y)
  where
    v : ℕ
    v = entry_at a x tree_place

    s : ℕ
    s = field_at f (entry_at a x tree_place) root_place

    from : ℕ → ℕ → Result ℕ Refusal
    from v w = pick (eqb v none || eqb w none) (Err Corrupt) (pick (eqb v w) (found_root (root_of f n v)) (Err OtherTree))

    last : (b : Bool) → on_sought (pick b (Err Corrupt) (Ok s)) g refused ≡ on_sought (pick b (Err Corrupt) (Ok s)) h refused
    last true = refl
    last false = e

    met : (b c d i : Bool)
        → on_sought (pick (b || c) (Err Corrupt) (pick d (found_root (pick b none (pick i s none))) (Err OtherTree))) g refused
        ≡ on_sought (pick (b || c) (Err Corrupt) (pick d (found_root (pick b none (pick i s none))) (Err OtherTree))) h refused
    met true c d i = refl
    met false true d i = refl
    met false false false i = refl
    met false false true false = refl
    met false false true true = last (eqb s none)

    go : (b : Bool) (w : ℕ) → on_sought (from (pick b v none) w) g refused ≡ on_sought (from (pick b v none) w) h refused
    go true w = met (eqb v none) (eqb w none) (eqb v w) (ltb s n)
    go false w = refl

-- two entries and one root decide it
pub sought_same : (f g a b : List ℕ) (n x y : ℕ) → entry_at a x tree_place ≡ entry_at b x tree_place → entry_at a y tree_place ≡ entry_at b y tree_place
    → field_at f (entry_at a x tree_place) root_place ≡ field_at g (entry_at a x tree_place) root_place → sought_in f a n x y ≡ sought_in g b n x y
unfolding sought_in
sought_same f g a b n x y i j e =
    ap (λ r. pick (eqb (tree_at a n x) none || eqb (tree_at a n y) none) (Err Corrupt) (pick (eqb (tree_at a n x) (tree_at a n y)) (found_root r) (Err OtherTree)))
    (go (ltb (entry_at a x tree_place) n))
    ∙ rw (i, j)
  where
    v : ℕ
    v = entry_at a x tree_place

    go : (c : Bool) → root_of f n (pick c v none) ≡ root_of g n (pick c v none)
    go true = rw e
    go false = refl
