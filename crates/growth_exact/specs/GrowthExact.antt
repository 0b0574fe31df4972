-- Growth on a table that passes inspection, by the definitions that the code's contracts name: it is served, and what it answers and leaves is the
-- growth that 01 asks for (01, "On a table that passes inspection no call gives 4").
use Rattle.std.specs.Prelude.{◌≡◌, Bool, true, ◌≢◌, List, ℕ, suc, ◌+◌, ◌*◌, ◌≤◌, ◌<◌, Result as Fallible, Ok, Some}
use Rattle.std.proofs.Math.Path.{ap, sym}
use Rattle.std.proofs.Common.{◌∙◌, arith, le-leb}
use Rattle.laws.specs.Test.{says_true}
use Rattle.tree_laws.specs.Ancestor.{none}
use Rattle.table.specs.declared.refusal.Refusal.{Refusal}
use Rattle.table.specs.declared.state.State.{State}
use Rattle.table.specs.Parts.{Parts}
use Rattle.table.specs.Capacity.{Fits, capacity_of}
use Rattle.table.proofs.CapacityLaws.{capacity_fits}
use Rattle.table.specs.Table.{Table, table_of}
use Rattle.table.specs.Tree.{root_at}
use Rattle.table.specs.State.{is_standing}
use Rattle.table.proofs.StateLaws.{says_standing}
use Rattle.table.specs.Rules.{label_limit, face_limit}
use Rattle.layer.specs.StoredTree.{first}
use Rattle.table.specs.PlainTree.{root as root_in}
use Rattle.table.specs.Rules.{Rules}
use Rattle.table.proofs.Rules.{numbered}
use Rattle.table.specs.Scratch.{least_scratch}
use Rattle.tally.specs.Tally.{TallyOf}
use Rattle.tally.specs.FitLaws.{with_told}
use Rattle.tally.specs.Count.{has_room, counted}
use Rattle.tally_exact.specs.RoomExact.{tallied_room}
use Rattle.layer_laws.specs.Numbered.{InTree}
use Rattle.layer_laws.proofs.Numbered.{in_tree, first_is}
use Rattle.table_laws.specs.LevelBounds.{level_small}
use Rattle.table_laws.specs.Lines.{root_in_lem}
use Rattle.table_laws.specs.TreeTests.{tree_is, root_is}
use Rattle.growth_laws.specs.Growth.{Growth, leaf, root, Opens, Named, named_leaf, named_root, tree_of}
use Rattle.join_laws.specs.Extend.{with_lone}
use Rattle.growth_laws.specs.Grown.{Grown}
use Rattle.growth_laws.proofs.GrownLaws.{growth_pays}
use Rattle.join_laws.specs.Frame.{HeadRows}
use Rattle.join_laws.proofs.FrameLaws.{join_head}
use Rattle.growth_laws.specs.GrowthFrame.{GrowthFrame}
use Rattle.growth_laws.proofs.GrowthKeepsRules.{growth_plain}
use Rattle.join_laws.specs.Lag.{lag, worth, per_join}
use Rattle.growth_laws.specs.PlainStep.{PlainStep}
use Rattle.join_laws.specs.Renumbered.{rows}
use Rattle.join_laws.specs.StartOrder.{StartOrder}
use Rattle.join_laws.proofs.StartOrderLaws.{order_after}
use Rattle.growth_plan.specs.declared.row.Planned.{Planned}
use Rattle.growth_plan.specs.declared.row.Planned.TheVariants.{Grow}
use Rattle.growth_store.specs.Store.{Stored}
use Rattle.growth_plan.specs.Plan.{leaf_plan, over_plan, root_plan, root_over}
use Rattle.growth_plan.specs.PlanLaws.{leaf_row, above_row, over_row, root_row}
use Rattle.growth.specs.Outcome.{node}
use Rattle.growth.specs.Growth.{Result, growth_result, node_at, served, grown_at, grown_by, add_leaf, add_over, add_root}
use Rattle.renumber_exact.specs.SizeWalkExact.{more_one}
use Rattle.growth_exact.specs.GivenMarks.{label_given, marks, says_label, says_face, says_opening, given_most, given_tallied}
use Rattle.growth_exact.specs.PlanExact.{plan, joined_parts, plan_stored_lem, plan_fits, plan_step}
use Rattle.growth_exact.specs.GrowthSite.{site, level_planned, grows, head_row, table_grown as table_joined, labelled, grown, grown_rules, site_frame}

-- the table that stands after a growth
abbrev pub table_grown : State → Result → Table
table_grown s o = table_of o.parts (suc s.count)

-- growth g of the parts p, of capacity c, came out as o: served, and as 01 has it; its tally is true again
pub record GrownExactly (c : ℕ) (p : Parts) (s : State) (g : Growth) (o : Result) : Type 0 where
  -- the head that was renumbered
  pub head : ℕ
  -- the new number is the old count; the rows answered are those at or below the head in the stored tree; the head is answered last
  pub answered : o.outcome ≡ node (suc s.count) s.count (rows (table_grown s o).layer head) head
  -- the parts keep their lengths
  pub fits : Fits c o.parts
  -- row, head and renumbering as 01 has them
  pub grown : Grown (table_of p s.count) (table_grown s o) g head
  -- at and below the head the starts come in 01's order
  pub order : StartOrder (table_grown s o).layer (table_grown s o).layer head
  -- the table passes inspection again
  pub rules : Rules c (table_grown s o)
  -- and so does the tally
  pub tally : TallyOf (table_grown s o) o.tally
  -- the plain trees are one step of the plain list on
  pub plain : PlainStep (table_of p s.count) (table_grown s o) g
  -- what did not change
  pub frame : GrowthFrame c (table_of p s.count) (table_grown s o) g head
  -- the rows of the head, against the table in which the new row stands alone
  pub head_rows : HeadRows (with_lone (table_of p s.count).layer) (table_grown s o).layer s.count head
  -- the rows renumbered are paid for
  pub pays : worth * lag (table_grown s o).layer + rows (table_grown s o).layer head ≤ worth * lag (table_of p s.count).layer + per_join

-- What the calls ask of the parts and the count

pub capacity_is : {c : ℕ} (p : Parts) → Fits c p → Some c ≡ capacity_of p
capacity_is p fit = rw fit.levels at (capacity_fits p (rw fit.levels fit))

pub standing_is : {c : ℕ} (p : Parts) (s : State) → Rules c (table_of p s.count) → is_standing c s ≡ true
standing_is {c} p s r = says_true (says_standing c s) r.one.trees.count

pub count_more : (n : ℕ) {c : ℕ} (p : Parts) → Fits c p → n < c → (k h : ℕ) → node_at n k h ≡ node (suc n) n k h
count_more n p fit room k h =
    let more : n + 1 ≡ suc n = omega arith in
    ap (λ (m : ℕ). node m n k h) (more_one n (omega (arith, fit.most)) ∙ more)

-- the root of a tree, as the code reads it, is a row in use
pub rooted : {c : ℕ} (p : Parts) (s : State) → Fits c p → Rules c (table_of p s.count) → (x : ℕ) → x < s.count
    → root_at p.fields p.ancestors s.count x ≢ none
rooted p s fit r x l e =
    omega (arith, fit.most, r.one.trees.count, (root_in_lem r fit.most (in_tree (numbered r fit.most) x l)).in_use, sym (root_is p s.count r fit.most x l) ∙ e)

-- From the plan to the outcome

module _ {c : ℕ} (p : Parts) (w : List ℕ) (s : State) (fit : Fits c p) (r : Rules c (table_of p s.count)) (k : TallyOf (table_of p s.count) w)
    (scratch : ℕ) (long : least_scratch ≤ scratch) (room : s.count < c) (g : Growth) (named : Named (table_of p s.count) g) where
  abbrev t : Table
  t = table_of p s.count

  abbrev d : Table
  d = table_joined p s.count fit r room g named

  abbrev h : ℕ
  h = head_row p s.count fit r room g named

  abbrev left : Result
  left = growth_result (joined_parts fit (site p s.count fit r room g named) (marks t g)) (counted w (label_given g))
      (node_at s.count (rows d.layer h) h)

  free : has_room w c (label_given g) ≡ true
  free = tallied_room k room (given_most named)

  outcome_is : grown_by p w scratch (Ok (Grow (plan fit (site p s.count fit r room g named) (marks t g)))) ≡ left
  unfolding grown_by grown_at served
  outcome_is = rw (le-leb least_scratch scratch long, with_told p w fit k.long, free) (ap (λ (x : Stored). growth_result x.parts (counted w (label_given g)) (node_at s.count x.given h)) (plan_stored_lem fit (site p s.count fit r room g named) (marks t g)))

  left_exactly : GrownExactly c p s g left
  left_exactly =
      let b = grown p s.count fit r room g named in
      let plainly = growth_plain r fit.most room b in
      let i = site p s.count fit r room g named in
      let after = grown_rules p s.count fit r room g named in
      record {
        head = h;
        answered = count_more s.count p fit room (rows d.layer h) h;
        fits = plan_fits fit i (marks t g);
        grown = b;
        order = order_after (numbered after fit.most) b.step.renumbered;
        rules = after;
        tally = given_tallied r fit.most k named (labelled p s.count fit r room g named);
        plain = plainly;
        frame = site_frame p s.count fit r room g named;
        head_rows = join_head i.was (plan_step fit i (marks t g));
        pays = growth_pays (numbered r fit.most) b;
      }

  row_exactly : (q : Fallible Planned Refusal) → q ≡ Ok (Grow (plan fit (site p s.count fit r room g named) (marks t g))) → GrownExactly c p s g (grown_by p w scratch q)
  row_exactly q e = rw (e, outcome_is) left_exactly

-- The three calls

module _ {c : ℕ} (p : Parts) (w : List ℕ) (s : State) (fit : Fits c p) (r : Rules c (table_of p s.count)) (k : TallyOf (table_of p s.count) w)
    (scratch : ℕ) (long : least_scratch ≤ scratch) (room : s.count < c) where
  -- a leaf
  pub leaf_exact : (v label face : ℕ) → v < s.count → 1 ≤ label → label ≤ label_limit → face ≤ face_limit
      → GrownExactly c p s (leaf v label face) (add_leaf p w scratch s v label face)
  unfolding add_leaf
  leaf_exact v label face l i j m =
      let g : Named (table_of p s.count) (leaf v label face) = named_leaf l i j m in
      row_exactly p w s fit r k scratch long room (leaf v label face) g (leaf_plan p s v label face)
      (sym (leaf_row p s v label face c (capacity_is p fit) l (says_true (says_label label) (i, j)) (says_true (says_face face) m) (λ e. omega arith)
      (standing_is p s r) (rooted p s fit r v l) _ (sym (level_planned p s.count fit r room (leaf v label face) g _ (level_small r fit.most v l))))
      ∙ grows p s.count fit r room (leaf v label face) g)

  -- a new root over the root x, through an opening if one is named
  module _ (named : Bool) (opening : ℕ) (through : Opens named opening) where
    module _ (x : ℕ) (l : x < s.count) (own : root_in (table_of p s.count) x ≡ x) where
      abbrev over : Growth
      over = root x named opening

      above : root_over p s (first (table_of p s.count).layer x) x named opening
          ≡ Ok (Grow (plan fit (site p s.count fit r room over (named_root l own through)) (marks (table_of p s.count) over)))
      above =
          let g : Named (table_of p s.count) over = named_root l own through in
          let f : ℕ = tree_of (table_of p s.count) over in
          sym (above_row p s f x named opening _ (sym (level_planned p s.count fit r room over g _ (level_small r fit.most x l)))) ∙ grows p s.count fit r room over g

      pub over_exact : GrownExactly c p s (root x named opening) (add_over p w scratch s x named opening)
      unfolding add_over
      over_exact =
          let e : root_at p.fields p.ancestors s.count x ≡ x = root_is p s.count r fit.most x l ∙ own in
          row_exactly p w s fit r k scratch long room over (named_root l own through) (over_plan p s x named opening)
          (sym (over_row p s x named opening c (capacity_is p fit) l (says_true (says_opening named opening) through) (standing_is p s r) (rooted p s fit r x l) e (λ e. omega arith))
          ∙ ap (λ (f : ℕ). root_over p s f x named opening) (tree_is p s.count r fit.most (in_tree (numbered r fit.most) x l)) ∙ above)

    -- a new root over that of the first tree, where there is one
    pub root_exact : 0 < s.count → GrownExactly c p s (root (root_in (table_of p s.count) 0) named opening) (add_root p w scratch s named opening)
    unfolding add_root
    root_exact z =
        let t : Table = table_of p s.count in
        let i : InTree t.layer (first t.layer 0) 0 = in_tree (numbered r fit.most) 0 z in
        let j : InTree t.layer (first t.layer 0) (root_in t 0) = root_in_lem r fit.most i in
        let e : first t.layer (root_in t 0) ≡ first t.layer 0 = first_is (numbered r fit.most) j in
        row_exactly p w s fit r k scratch long room (root (root_in t 0) named opening) (named_root j.in_use (ap t.root e) through) (root_plan p s named opening)
        (sym (root_row p s named opening c (capacity_is p fit) (says_true (says_opening named opening) through) (λ e. omega arith) (standing_is p s r) (λ e. omega arith) (rooted p s fit r 0 z))
        ∙ ap (λ (f : ℕ). root_over p s f (root_at p.fields p.ancestors s.count 0) named opening) (tree_is p s.count r fit.most i ∙ sym e)
        ∙ ap (λ (x : ℕ). root_over p s (first t.layer (root_in t 0)) x named opening) (root_is p s.count r fit.most 0 z)
        ∙ above (root_in t 0) j.in_use (ap t.root e))
