-- At a site a row has a seat, and the seat's head is the head of its chain.
use Rattle.std.specs.Prelude.{◌≡◌, Bool, true, false, ◌||◌, not, ◌≢◌, List, ℕ, ◌≤◌, ◌<◌, eqb, Some}
use Rattle.std.proofs.Math.Path.{refl, ap, sym}
use Rattle.std.proofs.Common.{◌∙◌, arith}
use Rattle.std.proofs.Math.Decide.{ℕ_discrete}
use borrow.Author.Tests.{ne_eqb, eq-eqb, le-leb}
use Rattle.laws.specs.Test.{pick}
use Rattle.tree_laws.specs.Ancestor.{none}
use Rattle.tree_laws.specs.Join.{Old}
use Rattle.tree_laws.specs.JoinLaws.{old_up}
use Rattle.tree_laws.specs.SizeDepth.{depth_below_lem}
use Rattle.span.specs.Constants.{limit}
use Rattle.span.specs.Numbers.{end_of}
use Rattle.layer.specs.declared.row.Row.{Row}
use Rattle.layer.specs.Layout.{parent_place, last_place, depth_place, next_free_place}
use Rattle.layer.specs.Row.{field_at, number_at, row_of}
use Rattle.layer.specs.Layer.{Layer, parent, depth, upper, path}
use Rattle.layer_laws.proofs.Numbered.{shape}
use Rattle.join_laws.specs.Joined.{Joined}
use Rattle.join_laws.specs.JoinStep.{JoinStep}
use Rattle.join_laws.specs.Lone.{Kept}
use Rattle.join_laws.specs.Head.{Head}
use Rattle.join_laws.specs.Renumbered.{rows}
use Rattle.join_laws.specs.Trees.{OwnTrees}
use Rattle.join_laws.proofs.Trees.{own_trees, stored}
use Rattle.join.specs.Attach.{first_of, first_after, next_after, parent_after}
use Rattle.join.specs.CheckWalk.{is_readable}
use Rattle.join.specs.Copied.{copies_links}
use Rattle.layer.specs.Checked.{is_row}
use Rattle.join.specs.declared.seat.Seat.{Seat}
use Rattle.join.specs.Seat.{upper_under, upper_for, leaf_under, head_of, is_first, is_seated, is_whole, seat_of}
use Rattle.join.specs.SeatLaws.{seated, on_top}
use Rattle.join.specs.Store.{joined_at}
use Rattle.counts.specs.Count.{one_more}
use Rattle.renumber_exact.specs.SizeWalkExact.{more_one}
use Rattle.renumber_laws.specs.Column.{put}
use Rattle.renumber.specs.NumberWalk.{Written, walked}
use Rattle.renumber_exact.specs.Lent.{Long, layer_in, SameRest}
use Rattle.renumber_exact.specs.RenumberExact.{head_at}
use Rattle.join_exact.specs.CheckWalkExact.{Standing}
use Rattle.join_exact.proofs.CheckWalkExact.{check_passes}
use Rattle.join_exact.specs.Site.{LeafOf}
use Rattle.join_exact.proofs.Site.{Site}
use Rattle.join_exact.proofs.JoinExact.{between, first_is, next_is, joined}
use Rattle.join_exact.proofs.CopiedExact.{copies}
use Rattle.join_exact.proofs.HeadExact.{head_top, head, is_head, top_found, head_planned, head_renumberable}
use Rattle.join_exact.proofs.StoreExact.{head_seated, head_within, after, layer_after, after_long, after_step, after_given, after_rest, after_unused}

or_true : (a b : Bool) → b ≡ true → (a || b) ≡ true
or_true true b e = refl
or_true false b e = e

module _ {c k : ℕ} {p : Written} {t : Layer} {z v : ℕ} (s : Site c p k t z v) where
  abbrev n : ℕ
  n = t.count

  trees : OwnTrees t
  trees = own_trees s.was

  column : (g : Row → ℕ) (y : ℕ) → Old n z y → g ((layer_in p n).row y) ≡ g (t.row y)
  column g y o = ap g (s.row y o)

  -- The leaf

  abbrev pub u : ℕ
  u = upper_for p.fields p.numbers k v

  parent_is : field_at p.fields v parent_place ≡ parent t v
  parent_is = column (λ (r : Row). r.parent) v s.over

  upper_first : parent t v ≡ none → u ≡ v
  unfolding upper_for
  upper_first e = rw (eq-eqb (field_at p.fields v parent_place) none (parent_is ∙ e)) refl

  upper_below : parent t v ≢ none → u ≡ pick (eqb (path t (parent t v)) v) (upper t v) v
  unfolding upper_for upper_under
  upper_below d =
      let o : Old n z (parent t v) = old_up (stored trees) s.alone v s.over d in
      rw (parent_is, ne_eqb (parent t v) none d, s.good (parent t v) o, column (λ (r : Row). r.path) (parent t v) o, column (λ (r : Row). r.upper) v s.over) refl

  pub leaf_of : LeafOf t v (field_at p.fields v last_place) u (one_more (field_at p.fields v depth_place))
  leaf_of = record {
    sibling = column (λ (r : Row). r.last) v s.over;
    upper_apex = λ a. elim (ℕ_discrete (parent t v) none) [
      | yes e ↦ upper_first e
      | no d ↦ upper_below d ∙ ap (λ (b : Bool). pick b (upper t v) v) (ne_eqb (path t (parent t v)) v (a d))
    ];
    upper_along = λ a. upper_below a.some ∙ ap (λ (b : Bool). pick b (upper t v) v) (eq-eqb (path t (parent t v)) v a.link);
    below = rw (column (λ (r : Row). r.depth) v s.over) (more_one (depth t v) (omega (arith, depth_below_lem (shape s.was) v s.over.inside, s.was.one.count)));
  }

  -- The layer with it

  abbrev w : ℕ
  w = field_at p.fields v last_place

  abbrev deep : ℕ
  deep = one_more (field_at p.fields v depth_place)

  abbrev m : Layer
  m = between s w u deep leaf_of

  abbrev pub h : ℕ
  h = head s w u deep leaf_of

  abbrev top : ℕ
  top = head_top s w u deep leaf_of

  in_m : Joined t m z v
  in_m = joined s w u deep leaf_of

  pub head_is : Head m z h
  head_is = is_head s w u deep leaf_of

  -- The links as they will stand

  in_part : (y : ℕ) → y < n → y < c
  in_part y i = omega (arith, s.room)

  stands : Standing m p.fields (leaf_under p.fields z v)
  unfolding first_after first_of next_after parent_after put
  stands = record {
    first = λ y i. elim (ℕ_discrete y z) [
      | yes e ↦ rw (e, eq-eqb z z refl) (sym in_m.planted.new.first_none)
      | no d ↦ rw (ne_eqb y z d) (sym (first_is s w u deep leaf_of y (in_part y i) d))
    ];
    next = λ y i. elim (ℕ_discrete y z) [
      | yes e ↦ rw (e, eq-eqb z z refl) (sym in_m.planted.new.next_none)
      | no d ↦ rw (ne_eqb y z d) (sym (next_is s w u deep leaf_of y (in_part y i) d))
    ];
    parent = λ y i. elim (ℕ_discrete y z) [
      | yes e ↦ rw (e, eq-eqb z z refl) (sym in_m.planted.new.parent_is)
      | no d ↦
          let o : Old n z y = record { inside = i; other = d } in
          rw (ne_eqb y z d) (column (λ (r : Row). r.parent) y o ∙ sym (in_m.planted.old y o).same_parent)
    ];
  }

  readable : (y : ℕ) → y < n → is_readable p.fields p.numbers k (leaf_under p.fields z v) y ≡ true
  unfolding is_readable
  readable y i = elim (ℕ_discrete y z) [
    | yes e ↦ rw (eq-eqb y z e) refl
    | no d ↦ or_true (eqb y z) (is_row k (row_of p.fields p.numbers) y) (s.good y record { inside = i; other = d })
  ]

  -- The tests

  head_in : h < n
  head_in = (head_renumberable s.was in_m head_is).in_use

  first_or : (is_first p.fields z h || not (eqb (upper m h) none)) ≡ true
  unfolding is_first
  first_or = elim (ℕ_discrete (upper m h) none) [
    | yes e ↦
        let g = head_seated s w u deep leaf_of h head_is e in
        let o : Old n z h = record { inside = head_in; other = g.0 } in
        rw (ne_eqb h z g.0, eq-eqb (field_at p.fields h parent_place) none (column (λ (r : Row). r.parent) h o ∙ g.1)) refl
    | no d ↦ or_true (is_first p.fields z h) (not (eqb (upper m h) none)) (rw (ne_eqb (upper m h) none d) refl)
  ]

  head_sits : is_seated p.fields p.numbers z (head_at m h) ≡ true
  unfolding is_seated
  head_sits = rw (first_or, le-leb (end_of (number_at p.numbers (upper m h) next_free_place) (rows m h)) limit (head_within s w u deep leaf_of h head_is)) refl

  whole_walk : is_whole p.fields p.numbers k (leaf_under p.fields z v) (head_at m h) ≡ true
  unfolding is_whole
  whole_walk = or_true (eqb h z) _ (check_passes (head_renumberable s.was in_m head_is)
      p.fields p.numbers k (leaf_under p.fields z v) stands readable)

  links : copies_links p.ancestors k (head_at m h).upper ≡ true
  links = copies s w u deep leaf_of h head_in

  -- the seat
  abbrev pub seat : Seat
  seat = record { leaf = leaf_under p.fields z v; upper = u; depth = deep; head = head_at m h }

  pub seat_found : seat_of p.fields p.numbers p.ancestors k z v ≡ Some seat
  seat_found =
      let g : List ℕ = p.fields in
      let e : head_of g top z u ≡ head_at m h = head_planned s w u deep leaf_of in
      sym (on_top g p.numbers p.ancestors k z v top (s.good v s.over) (sym (top_found s w u deep leaf_of)))
      ∙ sym (seated g p.numbers p.ancestors k z v u top deep (rw e head_sits) (rw e whole_walk) (rw e links)) ∙ rw e refl

  -- What is stored at it

  abbrev pub joined_parts : Written
  joined_parts = (after s w u deep leaf_of h head_is).parts

  abbrev pub joined_layer : Layer
  joined_layer = layer_after s w u deep leaf_of h head_is

  pub site_stored : joined_at p k seat ≡ walked joined_parts (rows joined_layer h)
  unfolding joined_at
  site_stored = ap (walked joined_parts) (after_given s w u deep leaf_of h head_is)

  pub site_long : Long c joined_parts
  site_long = after_long s w u deep leaf_of h head_is

  pub site_step : JoinStep t joined_layer z v h
  site_step = after_step s w u deep leaf_of h head_is

  pub site_rest : SameRest p.fields joined_parts.fields
  site_rest = after_rest s w u deep leaf_of h head_is

  pub site_unused : (before x : ℕ) → n ≤ x → x < c → Kept (layer_in p before) joined_layer x
  site_unused = after_unused s w u deep leaf_of h head_is
