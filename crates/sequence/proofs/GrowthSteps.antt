-- First nodes, leaves and new roots, where the table stands beside the plain list: refused as it refuses, or served.
use Rattle.std.specs.Prelude.{◌≡◌, Bool, true, false, ◌≢◌, List, Err, ℕ, ◌≤◌, ◌<◌, length}
use Rattle.std.proofs.Math.Path.{refl, sym, ap}
use Rattle.std.proofs.Common.{◌∙◌, eq-eqb, ne_eqb}
use Rattle.std.proofs.Math.Decide.{dec_lt, ℕ_discrete}
use native.Mathlib.Omega.{arith}
use Rattle.laws.specs.Test.{says_true, says_false, says_get}
use Rattle.tree_laws.specs.Ancestor.{none}
use Rattle.table.specs.declared.refusal.Refusal.{Refusal}
use Rattle.table.specs.declared.refusal.Refusal.TheVariants.{UnknownNode, Full, BadLabel, NotRoot, BadFace}
use Rattle.table.specs.Refusal.{number_of}
use Rattle.table.specs.PlainTree.{plain, root as root_of}
use Rattle.table.specs.Rules.{label_limit, face_limit}
use Rattle.table.specs.Scratch.{least_scratch}
use Rattle.table_laws.specs.TreeTests.{root_is}
use Rattle.growth_plan.specs.Plan.{is_opening, first_plan, leaf_plan, over_plan, root_plan}
use Rattle.growth_plan.specs.PlanLaws.{leaf_unknown, leaf_label, leaf_face, leaf_full, first_full, root_label, root_full, over_unknown, over_label, over_other, over_full}
use Rattle.growth.specs.Growth.{Result, add_first, add_leaf, add_over, add_root}
use Rattle.growth_laws.specs.Growth.{leaf as new_leaf, root as new_root}
use Rattle.growth_exact.specs.GivenMarks.{says_label, says_face, says_opening}
use Rattle.growth_exact.specs.GrowthExact.{GrownExactly, table_grown, standing_is, rooted, leaf_exact, over_exact, root_exact}
use Rattle.growth_exact.specs.FirstExact.{StartedExactly, first_exact, root_first_exact}
use Rattle.plain_list.specs.PlainList.{PlainList, count_of, parent_of, with_first, with_leaf, with_root}
use Rattle.plain_list.proofs.PlainListLaws.{node_count, root_count}
use Rattle.plain_list.specs.PlainStep.{first as plain_first, leaf as plain_leaf, root as plain_root, root_over as plain_over, is_opening as plain_opening, refusal_of, plain_outcome}
use Rattle.plain_list.proofs.PlainStepLaws as plainly
use Rattle.plain_list.proofs.Proper.{root_first, proper_first, proper_leaf, proper_root}
use Rattle.plain_list.proofs.Shows.{shows_node, shows_root}
use Rattle.plain_list.specs.StoredList.{StoredList}
use Rattle.sequence.specs.Calls.{first, leaf, root, root_over}
use Rattle.sequence.specs.Run.{Fast, table_in, step}
use Rattle.sequence.specs.Invariant.{Stands}
use Rattle.sequence.specs.StepExact.{asks_leaf, asks_over, asks_root, begins_first, begins_root, StepStands}
use Rattle.sequence.proofs.Trees.{in_use, root_top, top_root, root_known, root_shown}
use Rattle.sequence.proofs.Growths.{Next, grown_step, started_step, fit, grown_refused, grown_lent}

-- both ask the same of an opening
opening_same : (named : Bool) (opening : ℕ) → plain_opening named opening ≡ is_opening named opening
opening_same true opening = refl
opening_same false opening = refl

module _ {c : ℕ} {f : Fast} {p : PlainList} {stored : StoredList} {total joinings : ℕ} (s : Stands c f p stored total joinings) where
  small : c ≤ none
  small = omega (arith, s.fits.most)

  -- there is room for one row more
  room : count_of p ≢ c → f.state.count < c
  room d = omega (arith, s.count, s.proper.room)

  -- The plain list after each growth

  first_next : {o : Result} → count_of p ≢ c → StartedExactly c f.parts f.state o → Next s (table_grown f.state o) (with_first p)
  first_next {o} n e = record {
    proper = proper_first small s.proper n;
    shows = shows_node s.proper s.shows (λ x i. e.plain.label_old x (in_use s i)) (λ x i. e.plain.face_old x (in_use s i))
        (λ x i. e.plain.parent_old x (in_use s i)) (ap (plain (table_grown f.state o)) s.count ∙ e.plain.parent_new)
        (ap (table_grown f.state o).label s.count ∙ e.plain.label_new) (ap (table_grown f.state o).face s.count ∙ e.plain.face_new);
    count = node_count p none 0 0;
  }

  leaf_next : {v l a : ℕ} {o : Result} → count_of p ≢ c → v < count_of p → GrownExactly c f.parts f.state (new_leaf v l a) o
      → Next s (table_grown f.state o) (with_leaf p v l a)
  leaf_next {v} {l} {a} {o} n h e = record {
    proper = proper_leaf small s.proper n l a h;
    shows = shows_node s.proper s.shows (λ x i. e.plain.label_old x (in_use s i)) (λ x i. e.plain.face_old x (in_use s i))
        (λ x i. e.plain.parent_old x (in_use s i)) (ap (plain (table_grown f.state o)) s.count ∙ e.plain.parent_new)
        (ap (table_grown f.state o).label s.count ∙ e.plain.label_new) (ap (table_grown f.state o).face s.count ∙ e.plain.face_new);
    count = node_count p v l a;
  }

  root_next : (named : Bool) (opening : ℕ) {r : ℕ} {o : Result} → count_of p ≢ c → r < count_of p → parent_of p r ≡ none
      → GrownExactly c f.parts f.state (new_root r named opening) o → Next s (table_grown f.state o) (with_root p r named opening)
  root_next named opening {r} {o} n h t e = record {
    proper = proper_root small s.proper n named opening h t;
    shows = shows_root s.proper s.shows named opening (λ x i. e.plain.label_old x (in_use s i)) (λ x i. e.plain.face_old x (in_use s i))
        (λ x i d. e.plain.parent_old x (in_use s i) ∙ (rw (ne_eqb x r d) refl))
        (e.plain.parent_old r (in_use s h) ∙ (rw (eq-eqb r r refl) (sym s.count)))
        (ap (plain (table_grown f.state o)) s.count ∙ e.plain.parent_new) (ap (table_grown f.state o).label s.count ∙ e.plain.label_new)
        (ap (table_grown f.state o).face s.count ∙ e.plain.face_new);
    count = root_count p r named opening;
  }

  -- First node

  module _ (scratch : List ℕ) where
    first_refused : least_scratch ≤ length scratch → (r : Refusal) → plain_outcome c p (plain_first (length scratch)) ≡ refusal_of (number_of r) p
        → Err r ≡ first_plan f.parts f.state
        → StepStands c f p stored total joinings (first scratch) (plain_outcome c p (plain_first (length scratch))) (step f (first scratch))
    unfolding step add_first
    first_refused h r e i = grown_refused s (first scratch) _ (length scratch) _ h r e i

    first_served : least_scratch ≤ length scratch → count_of p ≢ c
        → StepStands c f p stored total joinings (first scratch) (plain_outcome c p (plain_first (length scratch))) (step f (first scratch))
    unfolding step
    first_served e n =
        let x = first_exact f.parts f.state s.fits s.rules (room n) f.tally s.tally (length scratch) e in
        rw (plainly.first_served c p (length scratch) e n) (started_step s _ x begins_first (first_next n x))

    pub first_step : StepStands c f p stored total joinings (first scratch) (plain_outcome c p (plain_first (length scratch))) (step f (first scratch))
    unfolding step add_first
    first_step = grown_lent s (first scratch) _ (length scratch) _ (plainly.first_misfit c p (length scratch)) (λ e. elim (ℕ_discrete (count_of p) c) [
      | yes w ↦ first_refused e Full (plainly.first_full c p (length scratch) e w) (first_full f.parts f.state c (fit s) (sym s.count ∙ w))
      | no w ↦ first_served e w
    ])

  -- Leaf

  module _ (v l a : ℕ) (scratch : List ℕ) where
    abbrev LeafStep : Type 0
    LeafStep = StepStands c f p stored total joinings (leaf v l a scratch) (plain_outcome c p (plain_leaf v l a (length scratch))) (step f (leaf v l a scratch))

    leaf_refused : least_scratch ≤ length scratch → (r : Refusal) → plain_outcome c p (plain_leaf v l a (length scratch)) ≡ refusal_of (number_of r) p
        → Err r ≡ leaf_plan f.parts f.state v l a → LeafStep
    unfolding step add_leaf
    leaf_refused h r e i = grown_refused s (leaf v l a scratch) _ (length scratch) _ h r e i

    module _ (e : least_scratch ≤ length scratch) (h : v < count_of p) where
      leaf_served : 1 ≤ l → l ≤ label_limit → a ≤ face_limit → count_of p ≢ c → LeafStep
      unfolding step
      leaf_served i j m n =
          let x = leaf_exact f.parts f.tally f.state s.fits s.rules s.tally (length scratch) e (room n) v l a (in_use s h) i j m in
          rw (plainly.leaf_served c p v l a (length scratch) e h i j m n) (grown_step s _ x asks_leaf (leaf_next n h x))

      leaf_unlabelled : ¬ ((1 ≤ l) × (l ≤ label_limit)) → LeafStep
      leaf_unlabelled d = leaf_refused e BadLabel (plainly.leaf_no_label c p v l a (length scratch) e h d)
          (leaf_label f.parts f.state v l a c (fit s) (in_use s h) (says_false (says_label l) d))

      leaf_labelled : 1 ≤ l → l ≤ label_limit → LeafStep
      leaf_labelled i j = elim (dec_lt face_limit a) [
        | yes d ↦
            let n : ¬ (a ≤ face_limit) = λ z. omega arith in
            leaf_refused e BadFace (plainly.leaf_no_face c p v l a (length scratch) e h i j n)
            (leaf_face f.parts f.state v l a c (fit s) (in_use s h) (says_true (says_label l) (i, j)) (says_false (says_face a) n))
        | no d ↦
            let m : a ≤ face_limit = omega arith in
            elim (ℕ_discrete (count_of p) c) [
              | yes w ↦ leaf_refused e Full (plainly.leaf_full c p v l a (length scratch) e h i j m w)
                  (leaf_full f.parts f.state v l a c (fit s) (in_use s h)
                  (says_true (says_label l) (i, j)) (says_true (says_face a) m) (sym s.count ∙ w))
              | no w ↦ leaf_served i j m w
            ]
      ]

      leaf_known : LeafStep
      leaf_known = elim (dec_lt l 1) [
        | yes d ↦ leaf_unlabelled (λ z. omega (arith, z.0))
        | no i ↦ elim (dec_lt label_limit l) [ yes d ↦ leaf_unlabelled (λ z. omega (arith, z.1)) | no j ↦ leaf_labelled (omega arith) (omega arith) ]
      ]

    pub leaf_step : LeafStep
    unfolding step add_leaf
    leaf_step = grown_lent s (leaf v l a scratch) _ (length scratch) _ (plainly.leaf_misfit c p v l a (length scratch)) (λ e. elim (dec_lt v (count_of p)) [
      | no d ↦ leaf_refused e UnknownNode (plainly.leaf_unknown c p v l a (length scratch) e (omega arith))
          (leaf_unknown f.parts f.state v l a c (fit s) (omega (arith, s.count)))
      | yes h ↦ leaf_known e h
    ])

  -- 01's new root

  module _ (named : Bool) (opening : ℕ) (scratch : List ℕ) where
    abbrev RootStep : Type 0
    RootStep = StepStands c f p stored total joinings (root named opening scratch) (plain_outcome c p (plain_root named opening (length scratch))) (step f (root named opening scratch))

    root_refused : least_scratch ≤ length scratch → (r : Refusal) → plain_outcome c p (plain_root named opening (length scratch)) ≡ refusal_of (number_of r) p
        → Err r ≡ root_plan f.parts f.state named opening → RootStep
    unfolding step add_root
    root_refused h r e i = grown_refused s (root named opening scratch) _ (length scratch) _ h r e i

    module _ (e : least_scratch ≤ length scratch) (i : is_opening named opening ≡ true) where
      root_served_first : count_of p ≢ c → count_of p ≡ 0 → RootStep
      unfolding step
      root_served_first n z =
          let k : f.state.count ≡ 0 = sym s.count ∙ z in
          let o = says_get (says_opening named opening) i in
          let x = root_first_exact f.parts f.state s.fits s.rules (room n) f.tally s.tally (length scratch) e named opening o k in
          rw (plainly.root_served_first c p named opening (length scratch) e (opening_same named opening ∙ i) n z) (started_step s _ x (begins_root k) (first_next n x))

      root_served : count_of p ≢ c → count_of p ≢ 0 → RootStep
      unfolding step
      root_served n z =
          let l : 0 < count_of p = omega arith in
          let o = says_get (says_opening named opening) i in
          let x = root_exact f.parts f.tally f.state s.fits s.rules s.tally (length scratch) e (room n) named opening o (in_use s l) in
          let t : parent_of p (root_of (table_in f) 0) ≡ none = ap (parent_of p) (sym (root_shown s 0 l)) ∙ (root_first s.proper 0 l).top in
          rw (plainly.root_served c p named opening (length scratch) e (opening_same named opening ∙ i) n z, root_shown s 0 l)
          (grown_step s _ x asks_root (root_next named opening n (root_known s 0 l) t x))

    root_opened : least_scratch ≤ length scratch → (b : Bool) → is_opening named opening ≡ b → RootStep
    root_opened e false i = root_refused e BadLabel (plainly.root_no_label c p named opening (length scratch) e (opening_same named opening ∙ i))
        (root_label f.parts f.state named opening c (fit s) i)
    root_opened e true i = elim (ℕ_discrete (count_of p) c) [
      | yes w ↦ root_refused e Full (plainly.root_full c p named opening (length scratch) e (opening_same named opening ∙ i) w)
          (root_full f.parts f.state named opening c (fit s) i (sym s.count ∙ w))
      | no w ↦ elim (ℕ_discrete (count_of p) 0) [ yes z ↦ root_served_first e i w z | no z ↦ root_served e i w z ]
    ]

    pub root_step : RootStep
    unfolding step add_root
    root_step = grown_lent s (root named opening scratch) _ (length scratch) _ (plainly.root_misfit c p named opening (length scratch))
        (λ e. root_opened e (is_opening named opening) refl)

  -- A new root over x

  module _ (x : ℕ) (named : Bool) (opening : ℕ) (scratch : List ℕ) where
    abbrev OverStep : Type 0
    OverStep = StepStands c f p stored total joinings (root_over x named opening scratch) (plain_outcome c p (plain_over x named opening (length scratch)))
        (step f (root_over x named opening scratch))

    over_refused : least_scratch ≤ length scratch → (r : Refusal) → plain_outcome c p (plain_over x named opening (length scratch)) ≡ refusal_of (number_of r) p
        → Err r ≡ over_plan f.parts f.state x named opening → OverStep
    unfolding step add_over
    over_refused h r e i = grown_refused s (root_over x named opening scratch) _ (length scratch) _ h r e i

    module _ (e : least_scratch ≤ length scratch) (h : x < count_of p) (i : is_opening named opening ≡ true) where
      over_served : parent_of p x ≡ none → count_of p ≢ c → OverStep
      unfolding step
      over_served t n =
          let o = says_get (says_opening named opening) i in
          let y = over_exact f.parts f.tally f.state s.fits s.rules s.tally (length scratch) e (room n) named opening o x (in_use s h) (top_root s h t) in
          rw (plainly.over_served c p x named opening (length scratch) e h (opening_same named opening ∙ i) t n) (grown_step s _ y asks_over (root_next named opening n h t y))

      over_known : OverStep
      over_known =
          let g = standing_is f.parts f.state s.rules in
          let l = in_use s h in
          let some = rooted f.parts f.state s.fits s.rules x l in
          let read = root_is f.parts f.state.count s.rules s.fits.most x l in
          elim (ℕ_discrete (parent_of p x) none) [
            | no d ↦ over_refused e NotRoot (plainly.over_no_root c p x named opening (length scratch) e h (opening_same named opening ∙ i) d)
                (over_other f.parts f.state x named opening c (fit s) l i g some (λ z. d (root_top s h (sym read ∙ z))))
            | yes t ↦ elim (ℕ_discrete (count_of p) c) [
              | yes w ↦ over_refused e Full (plainly.over_full c p x named opening (length scratch) e h (opening_same named opening ∙ i) t w)
                  (over_full f.parts f.state x named opening c (fit s) l i g some (read ∙ top_root s h t) (sym s.count ∙ w))
              | no w ↦ over_served t w
            ]
          ]

    over_opened : least_scratch ≤ length scratch → x < count_of p → (b : Bool) → is_opening named opening ≡ b → OverStep
    over_opened e h false i = over_refused e BadLabel (plainly.over_no_label c p x named opening (length scratch) e h (opening_same named opening ∙ i))
        (over_label f.parts f.state x named opening c (fit s) (in_use s h) i)
    over_opened e h true i = over_known e h i

    pub over_step : OverStep
    unfolding step add_over
    over_step = grown_lent s (root_over x named opening scratch) _ (length scratch) _ (plainly.over_misfit c p x named opening (length scratch))
        (λ e. elim (dec_lt x (count_of p)) [
          | no d ↦ over_refused e UnknownNode (plainly.over_unknown c p x named opening (length scratch) e (omega arith))
              (over_unknown f.parts f.state x named opening c (fit s) (omega (arith, s.count)))
          | yes h ↦ over_opened e h (is_opening named opening) refl
        ])
