-- On a table that passes inspection the alike call on two nodes below the count that have a common ancestor is served, and its outcome is 1 exactly when
-- their lists of labels and their lists of faces, by the naive definition on the plain trees that the table records, are equal. On nodes of different trees it
-- is refusal 12.
use Rattle.std.specs.Prelude.{◌≡◌, Bool, true, false, ◌≢◌, Option, ℤ, pos, ◌+ℤ◌, ◌-ℤ◌}
use Rattle.std.proofs.Math.Path.{refl}
use Rattle.std.proofs.Common.{ap, sym, ◌∙◌, arith}
use Prim.Native.Nat.{ℕ, zero, suc, ◌≤◌, ◌<◌}
use Rattle.std.proofs.Math.Decide.{dec_lt, ℕ_discrete}
use Rattle.std.proofs.Math.IntN.{+ℤ_comm, +ℤ-neg_ℤ_cancel}
use Rattle.laws.specs.Test.{Says, holds, fails, says_eq, says_true, says_false, says_map, says_and, says_eqb, pick}
use Rattle.tree_laws.specs.Ancestor.{none}
use Rattle.tree_laws.specs.Nca.{Kindred}
use Rattle.tree_laws.specs.SizeDepth.{depth_below_lem}
use Rattle.table.specs.declared.refusal.Refusal.TheVariants.{Corrupt, OtherTree}
use Rattle.table.specs.declared.state.State.{State}
use Rattle.table.specs.Parts.{Parts}
use Rattle.table.specs.Capacity.{node_limit, Fits}
use Rattle.table.specs.Table.{Table}
use Rattle.layer.specs.StoredTree.{first}
use Rattle.table.specs.PlainTree.{plain}
use Rattle.tree_laws.specs.Answer.{SameList, Alike as AlikeOver}
use Rattle.table.specs.Rules.{Rules}
use Rattle.table.proofs.Rules.{numbered}
use Rattle.layer_laws.specs.Numbered.{InTree}
use Rattle.layer_laws.proofs.Numbered.{in_tree}
use Rattle.table_laws.specs.Lines.{root_in_lem}
use Rattle.table_laws.specs.LevelLaws.{level_root}
use Rattle.table_laws.specs.PlainRoot.{top_root}
use Rattle.ancestry.specs.declared.stored.Fork.{Fork}
use Rattle.ancestry_exact.proofs.CompressedExact.{row_passes}
use Rattle.ancestry_exact.specs.ForkExact.{StoredExact}
use Rattle.ancestry_exact.proofs.StoredExact.{stored_exact}
use Rattle.query_exact.specs.PlainExact.{node_passes}
use Rattle.query_exact.specs.PlainShape.{plain_depth_of, plain_shape, plain_depth_is, plain_parent_in, kindred_first, first_kindred}
use Rattle.query_exact.specs.SoughtExact.{recorded, asked_one, asked_two}
use Rattle.table.proofs.CapacityLaws.{fits_told}
use Rattle.table.proofs.LevelLaws.{says_eq_z}
use Rattle.alike_exact.specs.ListLaws.{same_depth, alike_itself, alike_below, alike_above}
use Rattle.alike_exact.specs.PlainParentExact.{plain_up_lem}
use Rattle.alike.specs.declared.walk.Turn.TheVariants.{Told, On}
use Rattle.alike.specs.Walk.{marked_alike, turn_at}
use Rattle.alike.specs.Outcome.{Outcome, compared, refused}
use Rattle.alike.specs.Alike.{after, walked, served, alike}
use Rattle.alike.proofs.AlikeLaws.{alike_by, alike_unknown_x, alike_unknown_y}

-- x and y have equal lists of labels and of faces on the plain trees of the table t
abbrev pub Alike : Table → ℕ → ℕ → Type 0
Alike t x y = AlikeOver (plain t) t.label t.face x y

-- the outcome o is 1 or 0 as x and y are alike or not
pub record ExactOutcome (t : Table) (x y : ℕ) (o : Outcome) : Type 0 where
  pub value : Bool
  pub says : Says (Alike t x y) value
  pub outcome : o ≡ compared value

-- Laws

add_unique : (l : ℤ) {m n : ℕ} → l +ℤ pos m ≡ l +ℤ pos n → m ≡ n
add_unique l {m} {n} e =
    let z : pos m ≡ pos n = sym (+ℤ-neg_ℤ_cancel (pos m) l) ∙ ap (λ (k : ℤ). k -ℤ l) (+ℤ_comm (pos m) l ∙ e ∙ +ℤ_comm l (pos n)) ∙ +ℤ-neg_ℤ_cancel (pos n) l in
    cc

says_marked : (label face : ℕ → ℕ) (x y : ℕ) → Says ((label x ≡ label y) × (face x ≡ face y)) (marked_alike label face x y)
unfolding marked_alike
says_marked label face x y = says_and (says_eqb (label x) (label y)) (λ _. says_eqb (face x) (face y))

-- two rows of plain parents: their labels and faces decide, or else the rows above
module _ {capacity : ℕ} {t : Table} (r : Rules capacity t) (fits : capacity ≤ node_limit) where
  marked_exact : {x y : ℕ} {b : Bool} (on : ℕ → ℕ → Outcome) → x < t.layer.count → y < t.layer.count → plain t x ≢ none → plain t y ≢ none
      → Says ((t.label x ≡ t.label y) × (t.face x ≡ t.face y)) b → ExactOutcome t (plain t x) (plain t y) (on (plain t x) (plain t y))
      → ExactOutcome t x y (after (pick b (On (plain t x) (plain t y)) (Told false)) on)
  marked_exact {x} {y} on l m h k (holds w) o =
      let tree = plain_shape r fits in
      record {
        value = o.value;
        says = says_map
            (λ s. alike_below tree t.label t.face h k record { last_label = w.0; last_face = w.1; above = s })
            (λ s. (alike_above tree t.label t.face l m h k s).above)
            o.says;
        outcome = o.outcome;
      }
  marked_exact {x} {y} on l m h k (fails w) o = record {
    value = false;
    says = fails (λ s. let up = alike_above (plain_shape r fits) t.label t.face l m h k s in w (up.last_label, up.last_face));
    outcome = refl;
  }

-- in the tree of f, whose root is its root
module _ {capacity : ℕ} {t : Table} (r : Rules capacity t) (fits : capacity ≤ node_limit) {f : ℕ} where
  -- rows of one level are those of one depth in the plain tree
  level_depth : {x y : ℕ} → InTree t.layer f x → InTree t.layer f y → t.level x ≡ t.level y → plain_depth_of t x ≡ plain_depth_of t y
  level_depth {x} {y} i j e =
      plain_depth_is r fits i ∙ add_unique (t.level (t.root f)) (sym (level_root r fits x i) ∙ e ∙ level_root r fits y j) ∙ sym (plain_depth_is r fits j)

  depth_level : {x y : ℕ} → InTree t.layer f x → InTree t.layer f y → plain_depth_of t x ≡ plain_depth_of t y → t.level x ≡ t.level y
  depth_level {x} {y} i j e =
      level_root r fits x i ∙ ap (λ (d : ℕ). t.level (t.root f) +ℤ pos d) (sym (plain_depth_is r fits i) ∙ e ∙ plain_depth_is r fits j) ∙ sym (level_root r fits y j)

  -- only the root has no plain parent, so of two rows of one depth each has one
  some_parent : {x y : ℕ} → InTree t.layer f x → InTree t.layer f y → x ≢ y → plain_depth_of t x ≡ plain_depth_of t y → plain t x ≢ none
  some_parent {x} {y} i j d e z = elim (ℕ_discrete (plain t y) none) [
    | yes w ↦ d (top_root r fits i z ∙ sym (top_root r fits j w))
    | no w ↦ omega (arith, (plain_shape r fits).root x i.in_use z, (plain_shape r fits).step y j.in_use w)
  ]

  -- by an exact stored answer
  module _ {stored : ℕ → ℕ → Option Fork} (exact : StoredExact t.layer stored) where
    -- a turn is right where the walk from the plain parents is
    turn_exact : (x y : ℕ) (on : ℕ → ℕ → Outcome) → InTree t.layer f x → InTree t.layer f y
        → (plain t x ≢ none → plain t y ≢ none → ExactOutcome t (plain t x) (plain t y) (on (plain t x) (plain t y)))
        → ExactOutcome t x y (after (turn_at t stored (t.root f) x y) on)
    unfolding turn_at
    turn_exact x y on i j rest =
        let tree = plain_shape r fits in
        let l = i.in_use in
        let m = j.in_use in
        rw (node_passes r fits x l, node_passes r fits y m, plain_up_lem r fits exact x i, plain_up_lem r fits exact y j) (elim (ℕ_discrete (plain_depth_of t x) (plain_depth_of t y)) [
          | no d ↦ rw (says_false (says_eq_z (t.level x) (t.level y)) (λ e. d (level_depth i j e)))
              record { value = false; says = fails (λ s. d (same_depth tree t.label l m s.labels)); outcome = refl }
          | yes e ↦ rw (says_true (says_eq_z (t.level x) (t.level y)) (depth_level i j e)) (elim (ℕ_discrete x y) [
            | yes z ↦ rw (says_true (says_eqb x y) z) record { value = true; says = holds (rw z (alike_itself tree t.label t.face y m)); outcome = refl }
            | no d ↦
                let h = some_parent i j d e in
                let k = some_parent j i (λ z. d (sym z)) (sym e) in
                rw (says_false (says_eqb x y) d) (marked_exact r fits on l m h k (says_marked t.label t.face x y) (rest h k))
          ])
        ])

    walk_exact : (n x y : ℕ) → InTree t.layer f x → InTree t.layer f y → plain_depth_of t x < n → ExactOutcome t x y (walked t stored (t.root f) n x y)
    unfolding walked
    walk_exact zero x y i j d = absurd (omega arith)
    walk_exact (suc n) x y i j d =
        turn_exact x y (walked t stored (t.root f) n) i j
        (λ h k. walk_exact n (plain t x) (plain t y) (plain_parent_in r fits i h) (plain_parent_in r fits j k) (omega (arith, (plain_shape r fits).step x i.in_use h)))

    served_exact : (x y : ℕ) → InTree t.layer f x → InTree t.layer f y → ExactOutcome t x y (served t stored (t.root f) x y)
    unfolding served
    served_exact x y i j =
        rw (row_passes (numbered r fits) (t.root f) (root_in_lem r fits i).in_use)
        (walk_exact t.layer.count x y i j (depth_below_lem (plain_shape r fits) x i.in_use))

module _ {c : ℕ} (parts : Parts) (state : State) (x y : ℕ) (fits : Fits c parts) (r : Rules c (recorded parts state))
    (l : x < state.count) (m : y < state.count) where
  -- by the first rows of their trees
  tree_exact : first (recorded parts state).layer x ≡ first (recorded parts state).layer y → ExactOutcome (recorded parts state) x y (alike parts state x y)
  tree_exact e =
      let g = numbered r fits.most in
      let i = in_tree g x l in
      let j : InTree (recorded parts state).layer (first (recorded parts state).layer x) y = rw e (in_tree g y m) in
      rw (← alike_by parts state x y (asked_one parts state x y fits r l m e)) (served_exact r fits.most (stored_exact g) x y i j)

  other_tree : first (recorded parts state).layer x ≢ first (recorded parts state).layer y → alike parts state x y ≡ refused OtherTree
  other_tree d = sym (alike_by parts state x y (asked_two parts state x y fits r l m d))

-- The theorem

pub alike_exact : {c : ℕ} (parts : Parts) (state : State) (x y : ℕ) → Fits c parts → Rules c (recorded parts state) → x < state.count → y < state.count
    → Kindred (plain (recorded parts state)) x y → ExactOutcome (recorded parts state) x y (alike parts state x y)
alike_exact parts state x y f r l m k = tree_exact parts state x y f r l m (kindred_first r f.most l m k)

pub alike_other_tree : {c : ℕ} (parts : Parts) (state : State) (x y : ℕ) → Fits c parts → Rules c (recorded parts state) → x < state.count → y < state.count
    → ¬ Kindred (plain (recorded parts state)) x y → alike parts state x y ≡ refused OtherTree
alike_other_tree parts state x y f r l m k = other_tree parts state x y f r l m (λ e. k (first_kindred r f.most l m e))

-- What follows from it

-- every pair alike is alike by labels (02: "so every pair alike after this change was alike before it")
pub alike_by_labels : (t : Table) {x y : ℕ} → Alike t x y → SameList (plain t) t.label x y
alike_by_labels t s = s.labels

-- an exact outcome of 1
told_alike : {t : Table} {x y : ℕ} {o : Outcome} → ExactOutcome t x y o → o ≡ compared true → Alike t x y
told_alike {t} {x} {y} e h = go e.says (sym e.outcome ∙ h)
  where
    go : {b : Bool} → Says (Alike t x y) b → compared b ≡ compared true → Alike t x y
    go (holds s) z = s
    go (fails d) z = absurd (let w : ◌≡◌ {A = ℕ} 0 1 = cc in omega arith)

module _ {c : ℕ} (parts : Parts) (state : State) (f : Fits c parts) (r : Rules c (recorded parts state)) where
  -- whatever test says whether x and y are alike gives the outcome
  pub alike_value : {x y : ℕ} {b : Bool} → x < state.count → y < state.count → Kindred (plain (recorded parts state)) x y
      → Says (Alike (recorded parts state) x y) b → alike parts state x y ≡ compared b
  alike_value {x} {y} l m k s = let e = alike_exact parts state x y f r l m k in e.outcome ∙ ap compared (says_eq (λ h. h) (λ h. h) e.says s)

  -- no call gives refusal 4, on whatever nodes
  pub alike_not_corrupt : (x y : ℕ) → alike parts state x y ≢ refused Corrupt
  alike_not_corrupt x y e = elim (dec_lt x state.count) [
    | no i ↦ let u = alike_unknown_x parts state x y (fits_told f) (omega arith) in let z : ◌≡◌ {A = ℕ} 0 1 = cc in omega arith
    | yes l ↦ elim (dec_lt y state.count) [
      | no j ↦ let u = alike_unknown_y parts state x y (fits_told f) l (omega arith) in let z : ◌≡◌ {A = ℕ} 0 1 = cc in omega arith
      | yes m ↦ elim (ℕ_discrete (first (recorded parts state).layer x) (first (recorded parts state).layer y)) [
        | yes k ↦ let u = (tree_exact parts state x y f r l m k).outcome in let z : ◌≡◌ {A = ℕ} 0 1 = cc in omega arith
        | no d ↦ let u = other_tree parts state x y f r l m d in let z : ◌≡◌ {A = ℕ} 0 1 = cc in omega arith
      ]
    ]
  ]

  -- the outcome is 1 only on nodes that are alike, whatever the nodes
  pub alike_told : (x y : ℕ) → alike parts state x y ≡ compared true → Alike (recorded parts state) x y
  alike_told x y e = elim (dec_lt x state.count) [
    | no i ↦ let u = alike_unknown_x parts state x y (fits_told f) (omega arith) in absurd (let z : ◌≡◌ {A = ℕ} 0 1 = cc in omega arith)
    | yes l ↦ elim (dec_lt y state.count) [
      | no j ↦ let u = alike_unknown_y parts state x y (fits_told f) l (omega arith) in absurd (let z : ◌≡◌ {A = ℕ} 0 1 = cc in omega arith)
      | yes m ↦ elim (ℕ_discrete (first (recorded parts state).layer x) (first (recorded parts state).layer y)) [
        | yes k ↦ told_alike (tree_exact parts state x y f r l m k) e
        | no d ↦ let u = other_tree parts state x y f r l m d in absurd (let z : ◌≡◌ {A = ℕ} 0 1 = cc in omega arith)
      ]
    ]
  ]

  -- and so only on nodes of equal lists of labels
  pub alike_told_labels : (x y : ℕ) → alike parts state x y ≡ compared true → SameList (plain (recorded parts state)) (recorded parts state).label x y
  alike_told_labels x y e = alike_by_labels (recorded parts state) (alike_told x y e)
