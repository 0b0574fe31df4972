-- A growth on a table that passes inspection: the new row joins at the table with one row more, which stands alone.
use Rattle.std.specs.Prelude.{◌≡◌, true, ◌⊎◌, ℕ, suc, ◌+◌, ◌≤◌, ◌<◌, ℤ, nat_abs, Ok, Some}
use Rattle.std.proofs.Math.Path.{refl}
use Rattle.std.proofs.Common.{ap, sym, inl, inr, arith}
use borrow.Author.Tests.{le-leb}
use Rattle.std.proofs.Math.IntN.{+ℤ_one, -ℤ_one}
use Rattle.laws.specs.Test.{says_true}
use Rattle.tree_laws.specs.Ancestor.{none}
use Rattle.tree_laws.specs.Join.{Old}
use Rattle.tree_laws.specs.SizeDepth.{depth_below_lem}
use Rattle.layer.specs.declared.row.Row.{Row}
use Rattle.table.specs.Parts.{Parts}
use Rattle.table.specs.Capacity.{Fits}
use Rattle.table.specs.Level.{level_limit}
use Rattle.table.specs.Table.{Table, table_of}
use Rattle.layer.specs.Layer.{Layer}
use Rattle.table.specs.Rules.{Rules}
use Rattle.table.proofs.Rules.{numbered}
use Rattle.layer.specs.Numbered.{Numbered}
use Rattle.layer_laws.proofs.Numbered.{shape, in_tree, first_in}
use Rattle.layer_laws.proofs.SoundRows.{numbered_sound}
use Rattle.table_laws.specs.LevelBounds.{level_depth, abs_suc, abs_pred}
use Rattle.growth_laws.specs.Growth.{Growth, Named, named_leaf, named_root, parent_of, face_of, level_of, tree_of}
use Rattle.join_laws.specs.Extend.{with_lone}
use Rattle.join_laws.proofs.Extend.{row_old, entry_old, extend, extend_alone}
use Rattle.growth_laws.specs.Grown.{Grown}
use Rattle.growth_laws.specs.GrowthFrame.{GrowthFrame}
use Rattle.growth_laws.proofs.GrowthFrameLaws.{grown_frame}
use Rattle.growth_laws.proofs.GrowthKeepsRules.{growth_keeps_rules}
use Rattle.join_laws.proofs.LoneLaws.{parted_numbered}
use Rattle.growth_plan.specs.declared.row.Planned.TheVariants.{Grow}
use Rattle.layer.specs.Checked.{is_row}
use Rattle.layer.specs.CheckedLaws.{says_row}
use Rattle.growth_plan.specs.Level.{level_from}
use Rattle.growth_plan.specs.PlannedRow.{planned_row}
use Rattle.renumber_laws.specs.Column.{put}
use Rattle.join_exact.proofs.Site.{Site}
use Rattle.join_exact.proofs.SeatExact.{h}
use Rattle.growth_exact.specs.MarksExact.{Given}
use Rattle.growth_exact.specs.GivenMarks.{label_given, labelled_row, marks, label_gives, face_gives, labelled_in, column_old, column_new}
use Rattle.growth_exact.specs.PlanExact.{layer_parts, long_parts, plan, row_planned, joined_table, plan_step, plan_label, plan_face, mark_level, kept_level, plan_roots, plan_unused}

-- a row that the walks read passes the check, in a layer that is numbered
pub good_row : {t : Layer} → Numbered t → (y : ℕ) → y < t.count → is_row t.count t.row y ≡ true
good_row {t} r y l = says_true (says_row t.count t.row y) record { in_use = l; sound = numbered_sound r y l }

module _ {c : ℕ} (p : Parts) (n : ℕ) (fit : Fits c p) (r : Rules c (table_of p n)) (room : n < c) (g : Growth) (named : Named (table_of p n) g) where
  abbrev t : Table
  t = table_of p n

  num : Numbered t.layer
  num = numbered r fit.most

  parent_in : parent_of g < n
  parent_in = go named
    where
      go : {g : Growth} → Named t g → parent_of g < n
      go (named_leaf l a b m) = l
      go (named_root l e o) = l

  old_in : (y : ℕ) → Old (suc n) n y → y < n
  old_in y o = let a = o.inside in let b = o.other in omega arith

  level_within : nat_abs (level_of t g) ≤ level_limit
  level_within = go named
    where
      low : (v : ℕ) → v < n → nat_abs (t.level v) + 1 ≤ level_limit
      low v l = omega (arith, level_depth r fit.most v l, depth_below_lem (shape num) v l, fit.most)

      go : {g : Growth} → Named t g → nat_abs (level_of t g) ≤ level_limit
      go (named_leaf {v = v} l a b m) = rw +ℤ_one (omega (arith, abs_suc (t.level v), low v l))
      go (named_root {r = v} l e o) = rw -ℤ_one (omega (arith, abs_pred (t.level v), low v l))

  pub site : Site c (layer_parts p) n (with_lone t.layer) n (parent_of g)
  site = record {
    long = long_parts fit;
    room = omega arith;
    was = parted_numbered num (extend t.layer num (omega (arith, fit.most))).parted;
    alone = extend_alone t.layer num;
    over = record { inside = omega (arith, parent_in); other = λ e. omega (arith, parent_in) };
    row = λ y o. sym (row_old t.layer y (old_in y o));
    entry = λ y i o b. sym (entry_old t.layer y i (old_in y o));
    good = λ y o. good_row num y (old_in y o);
    deep = λ y o. omega (arith, ap (λ (r : Row). r.depth) (row_old t.layer y (old_in y o)), depth_below_lem (shape num) y (old_in y o));
  }

  -- for every m past the rows in use
  tree_in : (m : ℕ) → n ≤ m → (tree_of t g ≡ none) ⊎ (tree_of t g < m)
  tree_in m i = go named
    where
      go : {g : Growth} → Named t g → (tree_of t g ≡ none) ⊎ (tree_of t g < m)
      go (named_leaf l a b m) = inl refl
      go (named_root {r = v} l e o) = inr (omega (arith, first_in num (in_tree num v l)))

  -- its level is one, as is the level that it is made from
  pub level_planned : (w : ℤ) → nat_abs w ≤ level_limit → level_from w (level_of t g) ≡ Some (level_of t g)
  unfolding level_from
  level_planned w b = rw (le-leb (nat_abs w) level_limit b, le-leb (nat_abs (level_of t g)) level_limit level_within) refl

  -- planned, with no refusal
  pub grows : planned_row p.fields p.numbers p.ancestors n n (parent_of g) (marks t g)
      ≡ Ok (Grow (plan fit site (marks t g)))
  grows = row_planned fit site (marks t g)

  abbrev pub head_row : ℕ
  head_row = h site

  abbrev pub table_grown : Table
  table_grown = joined_table fit site (marks t g)

  -- the label and the face are given
  taker_in : labelled_row t g < c
  taker_in = omega (arith, labelled_in named)

  pub labelled : Given t.label table_grown.label n (labelled_row t g) (label_given g)
  labelled = plan_label fit site (marks t g) taker_in

  faced : Given t.face table_grown.face n (labelled_row t g) (face_of g)
  faced = plan_face fit site (marks t g) taker_in

  -- stored, and as 01 has it
  pub grown : Grown t table_grown g head_row
  unfolding put
  grown = record {
    named = named;
    alone = with_lone t.layer;
    extended = extend t.layer num (omega (arith, fit.most));
    step = plan_step fit site (marks t g);
    labels = column_old (label_gives named) labelled;
    label_new = column_new (label_gives named) labelled;
    faces = column_old (face_gives named) faced;
    face_new = column_new (face_gives named) faced;
    levels = λ x l. kept_level fit site (marks t g) x (λ e. omega arith);
    level_new = mark_level fit site (marks t g);
    roots = λ x l. plan_roots fit site (marks t g) (tree_in c (omega arith)) x (omega arith) (λ e. omega arith);
  }

  pub grown_rules : Rules c table_grown
  grown_rules = growth_keeps_rules r fit.most room grown

  pub site_frame : GrowthFrame c t table_grown g head_row
  site_frame = grown_frame num grown (λ x i l. plan_unused fit site (marks t g) (labelled_in named) (tree_in (suc n) (omega arith)) n x (omega arith) l)
