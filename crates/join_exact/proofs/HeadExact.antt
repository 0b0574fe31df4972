-- The head that the plan finds is the head of the joined row's chain.
use Rattle.std.specs.Prelude.{◌≡◌, Bool, ◌≢◌, ℕ, ◌+◌, ◌*◌, ◌≤◌, ◌<◌, eqb, Some}
use Rattle.std.proofs.Math.Path.{refl, ap, sym}
use Rattle.std.proofs.Common.{◌∙◌, arith, ne_eqb}
use Rattle.std.proofs.Math.Decide.{ℕ_discrete}
use Rattle.laws.specs.Test.{Says, says_true, says_leb, pick}
use Rattle.tree_laws.specs.Ancestor.{none, Anc, Forest}
use Rattle.tree_laws.specs.AncestorLaws.{row_some}
use Rattle.tree_laws.specs.CompressedLaws.{size_apex_lem}
use Rattle.tree_laws.specs.Highest.{Highest, absent, highest}
use Rattle.tree_laws.specs.HighestLaws.{highest_below}
use Rattle.tree_laws.specs.Join.{Old, Joins}
use Rattle.tree_laws.specs.JoinLaws.{old_up, old_anc, anc_kept, anc_old, anc_new}
use Rattle.span.specs.Constants.{limit, growth_up, growth_down}
use Rattle.span.specs.Numbers.{outgrown}
use Rattle.layer.specs.declared.row.Row.{Row}
use Rattle.layer.specs.Layout.{size_place, set_size_place}
use Rattle.layer.specs.Row.{field_at}
use Rattle.layer.specs.Layer.{Layer, depth, upper, size, set_size}
use Rattle.layer.specs.Numbered.{Numbered}
use Rattle.layer.specs.Spans.{end}
use Rattle.join_laws.specs.Joined.{Joined}
use Rattle.join_laws.proofs.JoinedLaws.{inserted_trees, upper_alone}
use Rattle.join_laws.proofs.JoinedLinks.{planted_links}
use Rattle.join_laws.specs.JoinStep.{JoinStep}
use Rattle.join_laws.proofs.JoinStep.{join_keeps}
use Rattle.join_laws.specs.Head.{Due, Head}
use Rattle.join_laws.proofs.HeadLaws.{says_due, highest_head}
use Rattle.join_laws.proofs.Chains.{size_most}
use Rattle.join_laws.specs.Ready.{Ready}
use Rattle.join_laws.proofs.ReadyLaws.{ready}
use Rattle.join_laws.specs.Renumbered.{rows, Renumbered}
use Rattle.layer_laws.proofs.Bounds.{end_small as end_within}
use Rattle.join_laws.specs.Trees.{OwnTrees}
use Rattle.join_laws.proofs.Trees.{own_trees, stored, uppers}
use Rattle.renumber_laws.specs.Renumbering.{Renumberable}
use Rattle.renumber.specs.declared.Head.{Head as PlanHead}
use Rattle.counts.specs.Count.{one_more}
use Rattle.join.specs.Chain.{outgrown_at, top_from}
use Rattle.join.specs.Seat.{old_head, head_of}
use Rattle.renumber_exact.specs.SizeWalkExact.{more_one}
use Rattle.renumber_exact.specs.RenumberExact.{head_at}
use Rattle.join_exact.proofs.TopExact.{Found, find}
use Rattle.renumber.specs.NumberWalk.{Written}
use Rattle.renumber_exact.specs.Lent.{layer_in}
use Rattle.join_exact.specs.Site.{LeafOf}
use Rattle.join_exact.proofs.Site.{Site}
use Rattle.join_exact.proofs.JoinExact.{between, upper_in, joins, joined}

-- Any join: the head that is ready

module _ {t m : Layer} {z v h : ℕ} (r : Numbered t) (k : Joined t m z v) (e : Head m z h) where
  pub head_ready : Ready m h
  head_ready = ready r k e

  -- its rows are its size
  pub head_rows : rows m h ≡ size m h
  head_rows = let y = head_ready in
      sym (y.trees.sizes h y.in_use ∙ size_apex_lem (stored y.trees) y.trees.compressed h y.apex)

  pub head_renumberable : Renumberable m h
  head_renumberable = let y = head_ready in record { trees = y.trees; children = planted_links r k.planted; in_use = y.in_use; apex = y.apex }

  -- every number that its renumbering stores is within the limit
  pub head_safe : (d : Layer) → Renumbered m d h → (x : ℕ) → x < m.count → end d x ≤ limit
  head_safe d o x i =
      let y : JoinStep t d z v h = record { between = m; joined = k; head = e; renumbered = o } in
      end_within (join_keeps r y) x (omega (arith, o.tree.count))

-- The chain

module _ {c k : ℕ} {p : Written} {t : Layer} {z v : ℕ} (s : Site c p k t z v) (w u deep : ℕ) (q : LeafOf t v w u deep) where
  abbrev n : ℕ
  n = t.count

  abbrev m : Layer
  m = between s w u deep q

  in_m : Joined t m z v
  in_m = joined s w u deep q

  u_in : Old n z u
  u_in = upper_in s w u deep q

  trees : OwnTrees m
  trees = inserted_trees s.was in_m

  was : Forest (upper t) (depth t) n
  was = uppers (own_trees s.was)

  -- a row has outgrown its set size, with one row more
  abbrev Outgrown : ℕ → Type 0
  Outgrown y = growth_up * field_at p.fields y set_size_place ≤ growth_down * one_more (field_at p.fields y size_place)

  says_outgrown : (y : ℕ) → y < n → Says (Outgrown y) (outgrown_at p.fields y)
  unfolding outgrown_at
  says_outgrown y i = says_leb (growth_up * field_at p.fields y set_size_place) (growth_down * one_more (field_at p.fields y size_place))

  size_is : (y : ℕ) → Old n z y → one_more (field_at p.fields y size_place) ≡ size t y + 1
  size_is y o = rw (ap (λ (r : Row). r.size) (s.row y o)) (more_one (size t y) (omega (arith, size_most s.was y o.inside, s.was.one.count)))

  set_is : (y : ℕ) → Old n z y → field_at p.fields y set_size_place ≡ set_size t y
  set_is y o = ap (λ (r : Row). r.set_size) (s.row y o)

  top : Found (upper t) Outgrown u none (top_from k p.fields p.numbers k u none)
  top = find {In = Old n z} was (λ y o. o.inside) (λ y o d. old_up was (upper_alone s.was s.alone) y o d) k p.fields p.numbers
      (λ y o. ap (λ (r : Row). r.upper) (s.row y o)) s.good says_outgrown k u none u_in (s.deep u u_in)

  join : Joins (upper t) (upper m) n z u
  join = joins s w u deep q

  -- so it is due once the row is in
  chain_due : (a : ℕ) → Anc (upper t) a u → (size m a ≡ size t a + 1) × (set_size m a ≡ set_size t a)
  chain_due a g = let o = old_anc was join.alone u_in g in (in_m.size_chain a o (anc_new was join g), (in_m.old a o).same_set_size)

  due : (a : ℕ) → Anc (upper t) a u → Outgrown a → Due m a
  due a g o = let i = old_anc was join.alone u_in g in let y = chain_due a g in omega (arith, y.0, y.1, size_is a i, set_is a i)

  not_due : (a : ℕ) → Anc (upper t) a u → Due m a → Outgrown a
  not_due a g o = let i = old_anc was join.alone u_in g in let y = chain_due a g in omega (arith, y.0, y.1, size_is a i, set_is a i)

  highest_above : {b : ℕ} → Highest (upper t) Outgrown u b → Highest (upper m) (Due m) u b
  highest_above (absent h) = absent (λ a g d. let y = anc_old was join u_in g in h a y (not_due a y d))
  highest_above (highest {b = b} g o h) = highest (anc_kept was join u_in g) (due b g o)
      (λ a g' d. let y = anc_old was join u_in g' in anc_kept was join (old_anc was join.alone u_in y) (h a y (not_due a y d)))

  -- the head: the highest of them, or the row itself
  pub head_top : ℕ
  head_top = top.row

  pub head : ℕ
  head = pick (eqb head_top none) z head_top

  is_due : ℕ → Bool
  is_due x = outgrown (size m x) (set_size m x)

  new_due : Due m z
  new_due = omega (arith, in_m.size_new, in_m.set_size_new)

  upper_new_lem : upper m z ≡ u
  upper_new_lem = join.under

  upper_some : upper m z ≢ none
  upper_some = row_some was u_in.inside upper_new_lem

  head_highest : Highest (upper m) (Due m) z head
  unfolding head head_top is_due
  head_highest =
      let above : Highest (upper m) (Due m) (upper m z) head_top = rw upper_new_lem (highest_above top.is) in
      let y = highest_below (uppers trees) is_due (λ x _. says_due m x) {x = z} s.alone.inside upper_some above in
      rw (says_true (says_due m z) new_due) at y

  pub is_head : Head m z head
  is_head = highest_head m (uppers trees) s.alone.inside new_due head_highest

  -- as the plan finds it
  pub top_found : top_from k p.fields p.numbers k u none ≡ Some head_top
  unfolding head_top
  top_found = top.found ∙ ap Some (go (ℕ_discrete top.row none))
    where
      go : Dec (top.row ≡ none) → pick (eqb top.row none) none top.row ≡ top.row
      go (yes e) = rw e refl
      go (no d) = rw (ne_eqb top.row none d) refl

  head_new : head_top ≡ none → head ≡ z
  unfolding head
  head_new e = rw e refl

  head_old : head_top ≢ none → head ≡ head_top
  unfolding head
  head_old d = rw (ne_eqb head_top none d) refl

  top_over : head_top ≢ none → Anc (upper t) head_top u
  unfolding head_top
  top_over = over top.is
    where
      over : {b : ℕ} → Highest (upper t) Outgrown u b → b ≢ none → Anc (upper t) b u
      over (absent h) d = absurd (d refl)
      over (highest g o h) d = g

  rows_head : rows m head ≡ size m head
  rows_head = head_rows s.was in_m is_head

  same_head : (x a b a' b' : ℕ) → a ≡ a' → b ≡ b' → ◌≡◌ {A = PlanHead} (record { row = x; upper = a; rows = b }) (record { row = x; upper = a'; rows = b' })
  same_head x a b a' b' e o = rw (e, o) refl

  pub head_planned : head_of p.fields head_top z u ≡ head_at m head
  unfolding head_of old_head
  head_planned = elim (ℕ_discrete head_top none) [
    | yes e ↦
        let y = head_new e in
        rw (e, y) (same_head z u 1 (upper m z) (rows m z) (sym upper_new_lem) (sym (rw y at rows_head ∙ in_m.size_new)))
    | no d ↦
        let y = head_old d in
        let o : Old n z head_top = old_anc was join.alone u_in (top_over d) in
        let g = chain_due head_top (top_over d) in
        rw (ne_eqb head_top none d, y) (same_head head_top ((layer_in p n).row head_top).upper (one_more (field_at p.fields head_top size_place)) (upper m head_top) (rows m head_top)
        (ap (λ (r : Row). r.upper) (s.row head_top o) ∙ sym (in_m.old head_top o).same_upper)
        (size_is head_top o ∙ sym g.0 ∙ sym (rw y at rows_head)))
  ]
