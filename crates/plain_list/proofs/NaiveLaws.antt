-- The naive answers are the answers: on a forest, with as much fuel as the ranks of the nodes that are named.
use Rattle.std.specs.Prelude.{◌≡◌, refl, Bool, List, [], ◌∷◌, ◌≢◌, ℕ, zero, suc, ◌≤◌, ◌<◌}
use Rattle.std.proofs.Common.{sym, ◌∙◌, inl, inr, arith}
use Rattle.std.proofs.Math.Decide.{ℕ_discrete}
use Rattle.laws.specs.Test.{Says, holds, fails, says_map, says_or, says_and, says_eqb, pick}
use Rattle.tree_laws.specs.Ancestor.{none, Anc, here, there, Forest}
use Rattle.tree_laws.specs.AncestorLaws.{trans, cases, parent_over}
use Rattle.tree_laws.specs.Depth.{Steps, arrived, step}
use Rattle.tree_laws.specs.Nca.{Kindred, Nca, Branch, itself, child}
use Rattle.tree_laws.specs.NcaLaws.{nca_anc}
use Rattle.tree_laws.specs.Top.{First}
use Rattle.tree_laws.specs.Answer.{Answers, Listed, root, below, SameList}
use Rattle.plain_list.specs.Naive.{ancestors_of, is_in, first_in, steps_to, before, branch_to, naive_answer, list_of, same_lists, naive_same, last_after, naive_root}
use Rattle.plain_list.proofs.AnswerLaws.{list_unique}

-- what a test picks, by what the test says
pick_says : {A B : Type 0} {b : Bool} {u v : B} (P : B → Type 0) → Says A b → (A → P u) → ((A → ⊥) → P v) → P (pick b u v)
pick_says P (holds a) f g = f a
pick_says P (fails d) f g = g d

-- The list of ancestors

-- l is x and its ancestors, from x up to a root
data Line (up : ℕ → ℕ) : ℕ → List ℕ → Type 0 where
  top : {x : ℕ} → up x ≡ none → Line up x (x ∷ [])
  next : {x : ℕ} {l : List ℕ} → up x ≢ none → Line up (up x) l → Line up x (x ∷ l)

module _ {up : ℕ → ℕ} where
  says_is_in : {a x : ℕ} {l : List ℕ} → Line up x l → Says (Anc up a x) (is_in a l)
  says_is_in {a} {x} (top e) = says_map
      (λ s. elim s [ inl z ↦ rw z here | inr z ↦ absurd z ])
      (λ p. elim (cases p) [ inl z ↦ inl z | inr s ↦ absurd (s.0 e) ])
      (says_or (says_eqb a x) (fails (λ z. z)))
  says_is_in {a} {x} (next h p) = says_map
      (λ s. elim s [ inl z ↦ rw z here | inr r ↦ there h r ])
      (λ r. elim (cases r) [ inl z ↦ inl z | inr s ↦ inr s.1 ])
      (says_or (says_eqb a x) (says_is_in p))

  -- a proper ancestor of x is an ancestor of its parent
  above : {a x : ℕ} → Anc up a x → a ≢ x → (up x ≢ none) × Anc up a (up x)
  above r d = elim (cases r) [ inl z ↦ absurd (d z) | inr s ↦ s ]

  -- a common ancestor that is not x, since x is no ancestor of y, is one of the parent of x and of y
  kindred_above : {x y : ℕ} → Kindred up x y → ¬ Anc up x y → (up x ≢ none) × Kindred up (up x) y
  kindred_above k d =
      let s = above k.left (λ z. d (rw z at k.right)) in
      (s.0, record { root = k.root; left = s.1; right = k.right })

  nca_above : {x y a : ℕ} → up x ≢ none → ¬ Anc up x y → Nca up (up x) y a → Nca up x y a
  nca_above h d c = record {
    left = there h c.left;
    right = c.right;
    deepest = λ b p q. c.deepest b (above p (λ z. d (rw z at q))).1 q;
  }

  first_nca : {x y : ℕ} {l m : List ℕ} → Line up x l → Line up y m → Kindred up x y → Nca up x y (first_in l m)
  first_nca {x} {y} (top e) q k = pick_says (Nca up x y) (says_is_in {a = x} q) nca_anc (λ d. absurd ((kindred_above k d).0 e))
  first_nca {x} {y} (next h p) q k =
      pick_says (Nca up x y) (says_is_in {a = x} q) nca_anc (λ d. nca_above h d (first_nca p q (kindred_above k d).1))

  steps_to_lem : {a x : ℕ} {l : List ℕ} → Line up x l → Anc up a x → Steps up a (steps_to a l) x
  steps_to_lem {a} {x} (top e) r = pick_says (λ k. Steps up a k x) (says_eqb a x) (λ z. rw z arrived) (λ d. absurd ((above r d).0 e))
  steps_to_lem {a} {x} (next h p) r = pick_says (λ k. Steps up a k x) (says_eqb a x) (λ z. rw z arrived) (λ d. step h (steps_to_lem p (above r d).1))

  branch_before : {a b x z : ℕ} {l : List ℕ} → Line up x l → Anc up a x → up b ≢ none → up b ≡ x → Anc up b z → Branch up a z (before a b l)
  branch_before {a} {b} {x} {z} (top e) r i f s =
      pick_says (Branch up a z) (says_eqb a x) (λ w. child i (f ∙ sym w) s) (λ d. absurd ((above r d).0 e))
  branch_before {a} {b} {x} {z} (next h p) r i f s = pick_says
      (Branch up a z)
      (says_eqb a x)
      (λ w. child i (f ∙ sym w) s)
      (λ d. branch_before {b = x} p (above r d).1 h refl (trans (parent_over i f) s))

  branch_to_lem : {a x : ℕ} {l : List ℕ} → Line up x l → Anc up a x → Branch up a x (branch_to a l)
  branch_to_lem {a} {x} (top e) r = pick_says (Branch up a x) (says_eqb a x) itself (λ d. absurd ((above r d).0 e))
  branch_to_lem {a} {x} (next h p) r = pick_says (Branch up a x) (says_eqb a x) itself (λ d. branch_before p (above r d).1 h refl here)

  last_first : {x : ℕ} {l : List ℕ} (a : ℕ) → Line up x l → First up (last_after a l) x
  last_first a (top e) = record { over = here; top = e }
  last_first {x} a (next h p) = let r = last_first x p in record { over = there h r.over; top = r.top }

-- Equal lists

pub says_same_lists : (l m : List ℕ) → Says (l ≡ m) (same_lists l m)
says_same_lists [] [] = holds refl
says_same_lists [] (b ∷ m) = fails (λ e. let z : ◌≡◌ {A = ℕ} 0 1 = cc in omega arith)
says_same_lists (a ∷ l) [] = fails (λ e. let z : ◌≡◌ {A = ℕ} 0 1 = cc in omega arith)
says_same_lists (a ∷ l) (b ∷ m) = says_map (λ z. rw (z.0, z.1)) (λ e. ((cc), (cc))) (says_and (says_eqb a b) (λ _. says_same_lists l m))

-- On a forest

module _ {up rank : ℕ → ℕ} {n : ℕ} (t : Forest up rank n) where
  ancestors_line : (fuel x : ℕ) → x < n → rank x ≤ fuel → Line up x (ancestors_of up fuel x)
  ancestors_line zero x l h = elim (ℕ_discrete (up x) none) [ yes e ↦ top e | no d ↦ absurd (omega (arith, t.falls x l d)) ]
  ancestors_line (suc fuel) x l h = pick_says
      (λ r. Line up x (x ∷ r))
      (says_eqb (up x) none)
      top
      (λ d. next d (ancestors_line fuel (up x) (t.inside x l d) (omega (arith, t.falls x l d))))

  -- whether a is an ancestor of x, by the list of ancestors
  pub says_above : {a : ℕ} (fuel x : ℕ) → x < n → rank x ≤ fuel → Says (Anc up a x) (is_in a (ancestors_of up fuel x))
  says_above fuel x l h = says_is_in (ancestors_line fuel x l h)

  -- the naive answer is the answer
  pub naive_answers : (label : ℕ → ℕ) (fuel : ℕ) {x y : ℕ} → x < n → y < n → rank x ≤ fuel → rank y ≤ fuel → Kindred up x y
      → Answers up label x y (naive_answer up label fuel x y)
  unfolding naive_answer
  naive_answers label fuel {x} {y} l m i j k =
      let p = ancestors_line fuel x l i in
      let q = ancestors_line fuel y m j in
      let c = first_nca p q k in
      record {
        characteristic = record { nca = c; toward_x = branch_to_lem p c.left; toward_y = branch_to_lem q c.right };
        distance_x = steps_to_lem p c.left;
        distance_y = steps_to_lem q c.right;
        label = refl;
      }

  -- the naive list is the list
  pub naive_list : (column : ℕ → ℕ) (fuel x : ℕ) → x < n → rank x ≤ fuel → Listed up column x (list_of up column fuel x)
  naive_list column zero x l h = elim (ℕ_discrete (up x) none) [ yes e ↦ root e | no d ↦ absurd (omega (arith, t.falls x l d)) ]
  naive_list column (suc fuel) x l h = pick_says
      (Listed up column x)
      (says_eqb (up x) none)
      root
      (λ d. below d (naive_list column fuel (up x) (t.inside x l d) (omega (arith, t.falls x l d))))

  -- the naive test says whether x and y have equal lists
  pub says_same : (column : ℕ → ℕ) (fuel : ℕ) {x y : ℕ} → x < n → y < n → rank x ≤ fuel → rank y ≤ fuel
      → Says (SameList up column x y) (naive_same up column fuel x y)
  unfolding naive_same
  says_same column fuel {x} {y} l m i j =
      let p = naive_list column fuel x l i in
      let q = naive_list column fuel y m j in
      says_map
      (λ e. record { list = list_of up column fuel x; left = p; right = rw e q })
      (λ s. list_unique p s.left ∙ list_unique s.right q)
      (says_same_lists (list_of up column fuel x) (list_of up column fuel y))

  -- the naive root is the node of the tree that has no parent
  pub naive_root_first : (fuel x : ℕ) → x < n → rank x ≤ fuel → First up (naive_root up fuel x) x
  unfolding naive_root
  naive_root_first fuel x l h = last_first x (ancestors_line fuel x l h)
