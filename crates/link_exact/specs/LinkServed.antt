-- A link is exact: on a table that passes inspection it is served where x is a root and v stands in another tree, and then it is the link that 02 asks for;
-- every other call is refused for its reason and leaves parts and tally as they were. 4 is given exactly where inspection says no.
use Rattle.std.proofs.Math.Path.{◌≡◌, refl}
use Rattle.std.proofs.Common.{ap, sym, ◌∙◌, ne_eqb, le-leb}
use Rattle.std.specs.Prelude.{Result as Fallible, Some, Ok, Err, Bool, not, ◌≢◌, List, ℕ, ◌+◌, ◌*◌, ◌≤◌, ◌<◌, eqb, ltb, length}
use Rattle.std.proofs.Math.Bool.{true, false}
use Rattle.std.proofs.Math.Decide.{dec_lt}
use native.Mathlib.Omega.{arith}
use Rattle.laws.specs.Test.{Says, holds, fails, says_true, says_ltb, says_leb, says_eqb, says_and, says_get}
use Rattle.tree_laws.specs.Ancestor.{none}
use Rattle.table.specs.declared.refusal.Refusal.{Refusal}
use Rattle.table.specs.declared.refusal.Refusal.TheVariants.{UnknownNode, Misfit, Corrupt, BadLabel, NotRoot, SameTree}
use Rattle.table.specs.declared.state.State.{State}
use Rattle.table.specs.Capacity.{Fits}
use Rattle.layer.specs.StoredTree.{first}
use Rattle.table.specs.PlainTree.{root}
use Rattle.table.specs.Parts.{Parts}
use Rattle.table.specs.Rules.{Rules, label_limit}
use Rattle.table.proofs.Rules.{numbered}
use Rattle.table.specs.State.{is_standing}
use Rattle.table.proofs.StateLaws.{says_standing}
use Rattle.table.specs.Table.{Table, table_of}
use Rattle.table.specs.Tree.{tree_at, root_at}
use Rattle.layer_laws.proofs.Numbered.{in_tree, first_in}
use Rattle.table_laws.specs.Lines.{root_in_lem, root_label}
use Rattle.table_laws.specs.TreeTests.{tree_is, root_is, same_tree, tree_same}
use Rattle.tally.specs.Layout.{tally_length}
use Rattle.tally.specs.Tally.{TallyOf}
use Rattle.tally.specs.Fit.{capacity_with}
use Rattle.tally.specs.FitLaws.{with_told}
use Rattle.tally.specs.Count.{is_movable, moved}
use Rattle.tally_exact.proofs.CountExact.{moved_tallied}
use Rattle.tally_exact.specs.RoomExact.{tallied_movable}
use Rattle.inspect_exact.specs.Exact.{Passes}
use Rattle.inspect_exact.proofs.Exact.{inspect_exact}
use Rattle.inspect.specs.Inspects.{inspects}
use Rattle.join_laws.specs.Lag.{lag, worth, per_join}
use Rattle.growth_plan.specs.Plan.{is_label}
use Rattle.link_laws.specs.Link.{Linkable, Linked, PlainLink}
use Rattle.link_laws.specs.LinkFrame.{LinkFrame}
use Rattle.link_laws.proofs.LinkLaws.{link_keeps_rules, link_plain, link_pays}
use Rattle.link_laws.specs.Order.{tree_rows}
use Rattle.link_plan.specs.declared.Trees.{Trees}
use Rattle.link_plan.specs.Check.{trees, provided, link_within, link_checked}
use Rattle.link_plan.specs.CheckLaws.{check_scratch, check_x, check_v, check_label, check_not_root, check_same, check_inspect, trees_are, check_serve}
use Rattle.link.specs.Outcome.{refusal, refused, linked as tree_linked}
use Rattle.link.specs.Link.{Result, result, served_by, linked_by, link_by}
use Rattle.link_store.specs.JoinedTree.{joined_tree}
use Rattle.link_exact.specs.TreeJoined.{after, renumbered, tree_linked_lem, tree_fits, tree_frame, tree_joined}

-- a link that was served, told by its outcome
pub record LinkedExactly (c : ℕ) (p : Parts) (s : State) (x v door : ℕ) (o : Result) : Type 0 where
  pub rows : ℕ
  -- the rows that the joinings renumbered, and the first row of the receiving stored tree
  pub answered : o.outcome ≡ tree_linked rows (first (table_of p s.count).layer v)
  pub fits : Fits c o.parts
  pub linked : Linked (table_of p s.count) (table_of o.parts s.count) x v door rows
  pub rules : Rules c (table_of o.parts s.count)
  -- the tally is true again
  pub tally : TallyOf (table_of o.parts s.count) o.tally
  pub plain : PlainLink (table_of p s.count) (table_of o.parts s.count) x v door
  pub frame : LinkFrame c (table_of p s.count) (table_of o.parts s.count) x v
  pub pays : worth * lag (table_of o.parts s.count).layer + rows ≤ worth * lag (table_of p s.count).layer + per_join * tree_rows (table_of p s.count).layer x

-- by what was decided
by_refusal : (p : Parts) (w : List ℕ) (scratch : ℕ) (s : State) (x v door : ℕ) {why : Refusal} → Err why ≡ link_checked p w scratch s x v door
    → link_by p w scratch s x v door ≡ result p w (refused why)
unfolding link_by linked_by
by_refusal p w scratch s x v door e = rw (← e) refl

by_serving : (p : Parts) (w : List ℕ) (scratch : ℕ) (s : State) (x v door : ℕ) {t : Trees} → Ok t ≡ link_checked p w scratch s x v door
    → link_by p w scratch s x v door ≡ served_by w door t.receiving (joined_tree p scratch s.count t.linked x v door)
unfolding link_by linked_by
by_serving p w scratch s x v door e = rw (← e) refl

told_with : {c : ℕ} (p : Parts) (w : List ℕ) → Fits c p → length w ≡ tally_length → Some c ≡ capacity_with p w
told_with p w fit long = sym (with_told p w fit long)

-- Refusals on any table

module _ {c : ℕ} (p : Parts) (w : List ℕ) (scratch : ℕ) (s : State) (x v door : ℕ) (fit : Fits c p) (long : length w ≡ tally_length) where
  pub link_misfit : scratch ≢ c → link_by p w scratch s x v door ≡ result p w (refused Misfit)
  link_misfit d = by_refusal p w scratch s x v door (check_scratch p w scratch s x v door c (told_with p w fit long) d)

  module _ (same : scratch ≡ c) where
    pub link_unknown_x : s.count ≤ x → link_by p w scratch s x v door ≡ result p w (refused UnknownNode)
    link_unknown_x l = by_refusal p w scratch s x v door (check_x p w scratch s x v door c (told_with p w fit long) same l)

    pub link_unknown_v : s.count ≤ v → link_by p w scratch s x v door ≡ result p w (refused UnknownNode)
    link_unknown_v l = elim (dec_lt x s.count) [
      | yes k ↦ by_refusal p w scratch s x v door (check_v p w scratch s x v door c (told_with p w fit long) same k l)
      | no d ↦ link_unknown_x (omega arith)
    ]

    module _ (in_x : x < s.count) (in_v : v < s.count) where
      pub link_label : is_label door ≡ false → link_by p w scratch s x v door ≡ result p w (refused BadLabel)
      link_label e = by_refusal p w scratch s x v door (check_label p w scratch s x v door c (told_with p w fit long) same in_x in_v e)

      -- what 3, 1, 5, 10 and 11 let through is refused where inspection says no
      pub link_corrupt : is_label door ≡ true → s.count ≤ c → root_at p.fields p.ancestors s.count x ≡ x
          → tree_at p.ancestors s.count v ≢ none → tree_at p.ancestors s.count v ≢ tree_at p.ancestors s.count x
          → inspects c (table_of p s.count) w ≡ false → link_by p w scratch s x v door ≡ result p w (refused Corrupt)
      link_corrupt e l i j k z = by_refusal p w scratch s x v door (check_inspect p w scratch s x v door c (told_with p w fit long) same in_x in_v e
          (says_true (says_standing c s) l) (λ y. omega (arith, fit.most, sym i ∙ y)) i j k z)

-- On a table that passes inspection

module _ {c : ℕ} (p : Parts) (s : State) (fit : Fits c p) (r : Rules c (table_of p s.count)) where
  standing : is_standing c s ≡ true
  standing = says_true (says_standing c s) r.one.trees.count

  root_read : {x : ℕ} → x < s.count → root_at p.fields p.ancestors s.count x ≡ root (table_of p s.count) x
  root_read {x} l = root_is p s.count r fit.most x l

  root_some : {x : ℕ} → x < s.count → root_at p.fields p.ancestors s.count x ≢ none
  root_some {x} l e = omega (arith, sym (root_read l) ∙ e, (root_in_lem r fit.most (in_tree (numbered r fit.most) x l)).in_use, r.one.trees.count, fit.most)

  tree_some : {v : ℕ} → v < s.count → tree_at p.ancestors s.count v ≢ none
  tree_some {v} l e =
      let i = in_tree (numbered r fit.most) v l in
      omega (arith, sym (tree_is p s.count r fit.most i) ∙ e, first_in (numbered r fit.most) i, r.one.trees.count, fit.most)

  -- a root has label 0, so its entry may fall, and that of the door rise
  movable : (w : List ℕ) {x door : ℕ} → TallyOf (table_of p s.count) w → x < s.count → root (table_of p s.count) x ≡ x → 1 ≤ door → door ≤ label_limit
      → is_movable w c 0 door ≡ true
  movable w k l e i j = tallied_movable k r.one.trees.count l (root_label r fit.most l e) (λ z. omega arith) (omega arith) j

module _ {c : ℕ} (p : Parts) (w : List ℕ) (scratch : ℕ) (s : State) (x v door : ℕ) (fit : Fits c p) (r : Rules c (table_of p s.count))
    (tally : TallyOf (table_of p s.count) w) (same : scratch ≡ c) where
  abbrev t : Table
  t = table_of p s.count

  long : length w ≡ tally_length
  long = tally.long

  module _ (in_x : x < s.count) (in_v : v < s.count) (label : is_label door ≡ true) where
    pub link_not_root : root t x ≢ x → link_by p w scratch s x v door ≡ result p w (refused NotRoot)
    link_not_root d = by_refusal p w scratch s x v door (check_not_root p w scratch s x v door c (told_with p w fit long) same in_x in_v label (standing p s fit r) (root_some p s fit r in_x)
        (λ e. d (sym (root_read p s fit r in_x) ∙ e)))

    pub link_same_tree : root t x ≡ x → first t.layer v ≡ first t.layer x → link_by p w scratch s x v door ≡ result p w (refused SameTree)
    link_same_tree e i = by_refusal p w scratch s x v door (check_same p w scratch s x v door c (told_with p w fit long) same in_x in_v label (standing p s fit r) (root_some p s fit r in_x)
        (root_read p s fit r in_x ∙ e) (tree_some p s fit r in_v) (tree_same p s.count r fit.most v x in_v in_x i))

  module _ (h : Linkable t x v door) where
    label_is : is_label door ≡ true
    label_is = rw (le-leb 1 door h.least) (le-leb door _ h.most)

    checked : Ok (trees (first t.layer x) (first t.layer v)) ≡ link_checked p w scratch s x v door
    checked =
        let k = check_serve p w scratch s x v door c (told_with p w fit long) same h.in_use h.over label_is (standing p s fit r) (root_some p s fit r h.in_use) (root_read p s fit r h.in_use ∙ h.is_root)
        (tree_some p s fit r h.over) (λ e. h.other (same_tree p s.count r fit.most v x h.over h.in_use e))
        (says_true (inspect_exact c t w fit.most long) record { rules = r; tally = tally })
        (movable p s fit r w tally h.in_use h.is_root h.least h.most) in
        ap Ok (trees_are (read h.in_use) (read h.over)) ∙ k
      where
        read : {y : ℕ} → y < s.count → first t.layer y ≡ tree_at p.ancestors s.count y
        read {y} l = sym (tree_is p s.count r fit.most (in_tree (numbered r fit.most) y l))

    abbrev d : Parts
    d = after r fit h

    served : link_by p w scratch s x v door ≡ result d (moved w 0 door) (tree_linked (renumbered r fit h) (first t.layer v))
    unfolding served_by
    served = by_serving p w scratch s x v door checked ∙ rw (same, tree_joined r fit h) refl

    pub link_served : LinkedExactly c p s x v door (link_by p w scratch s x v door)
    link_served =
        let plainly = link_plain r fit.most (tree_linked_lem r fit h) in
        rw served record {
          rows = renumbered r fit h;
          answered = refl;
          fits = tree_fits r fit h;
          linked = tree_linked_lem r fit h;
          rules = link_keeps_rules r fit.most (tree_linked_lem r fit h);
          tally = moved_tallied tally h.in_use (root_label r fit.most h.in_use h.is_root) plainly.labelled (omega arith) plainly.labels;
          plain = plainly;
          frame = tree_frame r fit h;
          pays = link_pays r fit.most (tree_linked_lem r fit h);
        }

-- 4 exactly where inspection says no

-- a call that 3, 1, 5, 10 and 11 let through
pub record LetThrough (o : Result) : Type 0 where
  pub fits : o.outcome ≢ refusal 3
  pub known : o.outcome ≢ refusal 1
  pub labelled : o.outcome ≢ refusal 5
  pub is_root : o.outcome ≢ refusal 10
  pub other_tree : o.outcome ≢ refusal 11

same_number : {m n : ℕ} → refusal m ≡ refusal n → m ≡ n
same_number e = cc

-- the answers of one decision
ladder : Bool → Bool → Bool → Bool → Bool → Bool → Bool → Bool → Bool → Bool → Bool → Fallible Trees Refusal → Fallible Trees Refusal
ladder a b d e g h i j k l m o =
    provided a Misfit (provided b UnknownNode (provided d UnknownNode (provided e BadLabel (provided g Corrupt (provided h Corrupt (provided i NotRoot
    (provided j Corrupt (provided k SameTree (provided l Corrupt (provided m Corrupt o))))))))))

module _ (p : Parts) (w : List ℕ) (scratch n x v door : ℕ) where
  told : Fallible Trees Refusal → Result
  told o = linked_by p w scratch n x v door o

  -- inspection says no: 4 is all that is left
  no_four : (a b d e g h i j k m : Bool) (o : Fallible Trees Refusal) → LetThrough (told (ladder a b d e g h i j k false m o)) → (told (ladder a b d e g h i j k false m o)).outcome ≡ refusal 4
  unfolding ladder told linked_by
  no_four false b d e g h i j k m o q = absurd (q.fits refl)
  no_four true false d e g h i j k m o q = absurd (q.known refl)
  no_four true true false e g h i j k m o q = absurd (q.known refl)
  no_four true true true false g h i j k m o q = absurd (q.labelled refl)
  no_four true true true true false h i j k m o q = refl
  no_four true true true true true false i j k m o q = refl
  no_four true true true true true true false j k m o q = absurd (q.is_root refl)
  no_four true true true true true true true false k m o q = refl
  no_four true true true true true true true true false m o q = absurd (q.other_tree refl)
  no_four true true true true true true true true true m o q = refl

  -- inspection says yes: 4 is never given
  yes_none : (a b d e h i j k m : Bool) (t : Trees) → (b ≡ true → h ≡ true) → (d ≡ true → j ≡ true) → (b ≡ true → e ≡ true → i ≡ true → m ≡ true)
      → (told (ladder a b d e true h i j k true m (Ok t))).outcome ≡ refusal 4 → ⊥
  unfolding ladder told linked_by served_by
  yes_none false b d e h i j k m t y z u q = omega (arith, same_number {m = 3} q)
  yes_none true false d e h i j k m t y z u q = omega (arith, same_number {m = 1} q)
  yes_none true true false e h i j k m t y z u q = omega (arith, same_number {m = 1} q)
  yes_none true true true false h i j k m t y z u q = omega (arith, same_number {m = 5} q)
  yes_none true true true true false i j k m t y z u q = let o : ◌≡◌ {A = ℕ} 0 1 = cc (y refl) in omega arith
  yes_none true true true true true false j k m t y z u q = omega (arith, same_number {m = 10} q)
  yes_none true true true true true true false k m t y z u q = let o : ◌≡◌ {A = ℕ} 0 1 = cc (z refl) in omega arith
  yes_none true true true true true true true false m t y z u q = omega (arith, same_number {m = 11} q)
  yes_none true true true true true true true true false t y z u q = let o : ◌≡◌ {A = ℕ} 0 1 = cc (u refl refl refl) in omega arith
  yes_none true true true true true true true true true t y z u q = let o : ◌≡◌ {A = ℕ} 0 1 = cc in omega arith

module _ {c : ℕ} (p : Parts) (w : List ℕ) (scratch : ℕ) (s : State) (x v door : ℕ) (fit : Fits c p) (long : length w ≡ tally_length) where
  -- the decisions of a call, with this answer of inspection
  abbrev decided : Bool → Fallible Trees Refusal
  decided l = ladder (eqb scratch c) (ltb x s.count) (ltb v s.count) (is_label door) (is_standing c s)
      (not (eqb (root_at p.fields p.ancestors s.count x) none)) (eqb (root_at p.fields p.ancestors s.count x) x)
      (not (eqb (tree_at p.ancestors s.count v) none)) (not (eqb (tree_at p.ancestors s.count v) (tree_at p.ancestors s.count x))) l
      (is_movable w c 0 door) (Ok (trees (tree_at p.ancestors s.count x) (tree_at p.ancestors s.count v)))

  link_told : {l : Bool} → inspects c (table_of p s.count) w ≡ l → link_by p w scratch s x v door ≡ told p w scratch s.count x v door (decided l)
  unfolding link_by link_checked link_within ladder told
  link_told e = rw (with_told p w fit long, e) refl

  -- a root that is linked by a label: the tally can follow
  follows : Passes c (table_of p s.count) w → ltb x s.count ≡ true → is_label door ≡ true → eqb (root_at p.fields p.ancestors s.count x) x ≡ true
      → is_movable w c 0 door ≡ true
  follows q a b d =
      let l = says_get (says_ltb x s.count) a in
      let k = says_get (says_and (says_leb 1 door) (λ _. says_leb door label_limit)) b in
      movable p s fit q.rules w q.tally l (sym (root_read p s fit q.rules l) ∙ says_get (says_eqb (root_at p.fields p.ancestors s.count x) x) d) k.0 k.1

  -- 4 is given only where inspection says no
  pub link_four_only : (link_by p w scratch s x v door).outcome ≡ refusal 4 → inspects c (table_of p s.count) w ≡ false
  link_four_only q = go (inspects c (table_of p s.count) w) refl
    where
      go : (l : Bool) → inspects c (table_of p s.count) w ≡ l → l ≡ false
      go false e = refl
      go true e =
          let i : Passes c (table_of p s.count) w = says_get (inspect_exact c (table_of p s.count) w fit.most long) e in
          let r = i.rules in
          let k = ap (λ (o : Result). o.outcome) (sym (link_told e)) ∙ q in
          absurd (yes_none p w scratch s.count x v door (eqb scratch c) (ltb x s.count) (ltb v s.count) (is_label door) _ _ _ _ _ _
          (λ i. ap not (ne_eqb _ none (root_some p s fit r (says_get (says_ltb x s.count) i))))
          (λ i. ap not (ne_eqb _ none (tree_some p s fit r (says_get (says_ltb v s.count) i))))
          (follows i)
          (rw (standing p s fit r) at k))

  -- and of what 3, 1, 5, 10 and 11 let through, exactly there
  pub link_four : LetThrough (link_by p w scratch s x v door) → Says ((link_by p w scratch s x v door).outcome ≡ refusal 4) (not (inspects c (table_of p s.count) w))
  link_four q = go (inspects c (table_of p s.count) w) refl
    where
      go : (l : Bool) → inspects c (table_of p s.count) w ≡ l → Says ((link_by p w scratch s x v door).outcome ≡ refusal 4) (not l)
      go true e = fails (λ k. let z : ◌≡◌ {A = ℕ} 0 1 = cc (link_four_only k) in omega arith)
      go false e = holds (ap (λ (o : Result). o.outcome) (link_told e) ∙ no_four p w scratch s.count x v door _ _ _ _ _ _ _ _ _ _ _ (rw (link_told e) at q))
