-- The joins of a link, in the lent parts, are the joinings that 02 asks for.
use Rattle.std.specs.Prelude.{◌≡◌, ◌≢◌, Some, List, [], ◌∷◌, ℕ, ◌+◌, ◌≤◌, ◌<◌, eqb, ◌+ℤ◌}
use Rattle.std.proofs.Math.Path.{refl}
use Rattle.std.proofs.Common.{ap, sym, ◌∙◌, inl, inr, arith}
use borrow.Author.Tests.{le-leb}
use Rattle.std.proofs.Math.IntN.{pos, nat_abs, +ℤ_one}
use Rattle.laws.specs.Test.{pick, says_true, says_false, says_eqb}
use Rattle.tree_laws.specs.Ancestor.{none}
use Rattle.tree_laws.specs.ChildLinks.{Member}
use Rattle.tree_laws.specs.Chains.{Once}
use Rattle.tree_laws.specs.Depth.{Depth}
use Rattle.tree_laws.specs.Join.{Old, Alone, Joins}
use Rattle.tree_laws.specs.JoinLaws.{old_or, join_depth}
use Rattle.tree_laws.specs.SizeDepth.{depth_below_lem}
use Rattle.table.specs.Layout.{root_place}
use Rattle.table.specs.Parts.{Parts}
use Rattle.layer.specs.Row.{field_at}
use Rattle.table.specs.Capacity.{Fits}
use Rattle.table.specs.Level.{level_limit}
use Rattle.table.specs.Table.{Table, table_of}
use Rattle.layer.specs.Layer.{parent, depth}
use Rattle.layer.specs.Numbered.{Numbered}
use Rattle.layer_laws.proofs.Numbered.{shape}
use Rattle.table_laws.specs.LevelBounds.{abs_suc}
use Rattle.join_laws.specs.Joined.{Planted}
use Rattle.join_laws.specs.JoinStep.{JoinStep}
use Rattle.join_laws.proofs.JoinStep.{step_planted, join_keeps}
use Rattle.join_laws.specs.Renumbered.{rows}
use Rattle.growth_laws.specs.GrowthFrame.{Untouched}
use Rattle.growth_laws.proofs.GrowthFrameLaws.{untouched_same, untouched_trans}
use Rattle.link_laws.specs.Joinings.{Marked, Joinings, done, next}
use Rattle.link_laws.proofs.JoiningsLaws.{Before}
use Rattle.link_laws.specs.Link.{column_with}
use Rattle.growth_plan.specs.declared.row.Marks.{Marks}
use Rattle.growth_plan.specs.PlannedRow.{marks_of}
use Rattle.growth_plan.specs.Level.{level_from}
use Rattle.growth_store.specs.Store.{stored}
use Rattle.renumber_laws.proofs.Column.{put_other}
use Rattle.join_exact.proofs.Site.{Site}
use Rattle.join_exact.proofs.SeatExact.{h}
use Rattle.growth_exact.specs.PlanExact.{layer_parts, long_parts, row_planned, joined_parts, joined_table, plan_stored_lem, plan_fits, plan_step, plan_label, plan_face, mark_level, kept_level, plan_roots, plan_unused}
use Rattle.growth_exact.specs.GrowthSite.{good_row}
use Rattle.link_store.specs.JoinRow.{planned_stored, joined_under, join_row, join_all}

-- the rows of the list wait, each alone, with its target in its root field
pub record Waits (c : ℕ) (p : Parts) (n : ℕ) (target label face : ℕ → ℕ) (zs : List ℕ) : Type 0 where
  pub fit : Fits c p
  pub room : n ≤ c
  pub was : Numbered (table_of p n).layer
  pub alone : (w : ℕ) → Member zs w → Alone (parent (table_of p n).layer) n w
  pub named : (w : ℕ) → Member zs w → field_at p.fields w root_place ≡ target w
  pub under : (w : ℕ) → Member zs w → target w < n
  pub labels : (w : ℕ) → Member zs w → (table_of p n).label w ≡ label w
  pub faces : (w : ℕ) → Member zs w → (table_of p n).face w ≡ face w
  pub shallow : (y : ℕ) → y < n → ¬ Member zs y → nat_abs ((table_of p n).level y) ≤ depth (table_of p n).layer y

-- a row that joins as a leaf lies above the deepest possible row
deep_room : {up depth : ℕ → ℕ} {n z v : ℕ} → Depth up depth n → Alone up n z → Old n z v → depth v + 1 < n
deep_room {up} {depth} {n} {z} {v} s a o =
    let j : Joins up (λ x. pick (eqb x z) v (up x)) n z v = record {
      alone = a;
      over = o;
      same = λ x i. rw (says_false (says_eqb x z) i.other) refl;
      under = rw (says_true (says_eqb z z) refl) refl;
    } in
    let k : Depth (λ x. pick (eqb x z) v (up x)) (λ x. pick (eqb x z) (depth v + 1) (depth x)) n = join_depth s j
    (λ x i. rw (says_false (says_eqb x z) i.other) refl) (rw (says_true (says_eqb z z) refl) refl) in
    rw (says_true (says_eqb z z) refl) at (depth_below_lem k z a.inside)

module _ {c : ℕ} {p : Parts} {n : ℕ} {target label face : ℕ → ℕ} {z : ℕ} {zs : List ℕ} (q : Waits c p n target label face (z ∷ zs)) (once : Once (z ∷ zs))
    (before : Before target (z ∷ zs)) where
  abbrev t : Table
  t = table_of p n

  abbrev v : ℕ
  v = target z

  over : Old n z v
  over = record { inside = q.under z (inl refl); other = λ e. before.0 (inl e) }

  level_low : nat_abs (t.level v +ℤ pos 1) ≤ level_limit
  level_low = rw +ℤ_one (omega (arith, abs_suc (t.level v), q.shallow v over.inside before.0, deep_room (shape q.was) (q.alone z (inl refl)) over, q.was.one.count))

  -- the level that it is made from is one too
  pub level_planned : level_from (t.level v) (t.level v +ℤ pos 1) ≡ Some (t.level v +ℤ pos 1)
  unfolding level_from
  level_planned =
      let high : nat_abs (t.level v) ≤ level_limit = omega (arith, q.shallow v over.inside before.0, depth_below_lem (shape q.was) v over.inside, q.was.one.count) in
      rw (le-leb (nat_abs (t.level v)) level_limit high, le-leb (nat_abs (t.level v +ℤ pos 1)) level_limit level_low) refl

  pub site : Site c (layer_parts p) n t.layer z v
  site = record {
    long = long_parts q.fit;
    room = q.room;
    was = q.was;
    alone = q.alone z (inl refl);
    over = over;
    row = λ y o. refl;
    entry = λ y i o b. refl;
    good = λ y o. good_row q.was y o.inside;
    deep = λ y o. depth_below_lem (shape q.was) y o.inside;
  }

  -- of this label and face
  module _ (f s : ℕ) where
    abbrev marks : Marks
    marks = marks_of (t.level v +ℤ pos 1) z f s none

    abbrev d : Table
    d = joined_table q.fit site marks

    pub step : JoinStep t.layer d.layer z v (h site)
    step = plan_step q.fit site marks

    planted : Planted t.layer d.layer z v
    planted = step_planted step

    row_in : z < c
    row_in = omega (arith, (q.alone z (inl refl)).inside, q.room)

    pub marked : Marked t d z f s (t.level v +ℤ pos 1)
    marked = record {
      old = λ x o. record {
        same_label = (plan_label q.fit site marks row_in).kept x o.other o.other;
        same_face = (plan_face q.fit site marks row_in).kept x o.other o.other;
        same_level = kept_level q.fit site marks x o.other;
      };
      label_is = (plan_label q.fit site marks row_in).taken;
      face_is = (plan_face q.fit site marks row_in).taken;
      level_is = mark_level q.fit site marks;
    }

    pub root_rest : (y : ℕ) → y < n → y ≢ z → d.root y ≡ field_at p.fields y root_place
    root_rest y l e = plan_roots q.fit site marks (inl refl) y (omega (arith, q.room)) e
        ∙ put_other (λ x. field_at p.fields x root_place) none z y (λ e. omega (arith, q.room, q.fit.most))

    pub step_unused : (y : ℕ) → n ≤ y → y < c → Untouched t d y
    step_unused = plan_unused q.fit site marks (q.alone z (inl refl)).inside (inl refl) n

    abbrev pub parts_after : Parts
    parts_after = joined_parts q.fit site marks

    -- what it stores
    stores : joined_under p n z v f s ≡ stored parts_after (rows d.layer (h site))
    unfolding joined_under planned_stored
    stores = rw (level_planned, row_planned q.fit site marks) (plan_stored_lem q.fit site marks)

    -- the others wait on
    pub waits_on : Waits c parts_after n target label face zs
    waits_on =
        let k = planted in
        let other : (w : ℕ) → Member zs w → w ≢ z = λ w m e. once.0 (rw e at m) in
        let old : (w : ℕ) → w < n → w ≢ z → Old n z w = λ w l e. record { inside = l; other = e } in
        let e = marked in
        record {
          fit = plan_fits q.fit site marks;
          room = q.room;
          was = join_keeps q.was step;
          alone = λ w m. let a = q.alone w (inr m) in record {
            inside = a.inside;
            top = (k.old w (old w a.inside (other w m))).same_parent ∙ a.top;
            bare = λ y l e. elim (old_or z y l) [
              | inl o ↦ a.bare y l (sym (k.old y o).same_parent ∙ e)
              | inr i ↦ before.0 (inr (rw (sym k.new.parent_is ∙ ap (parent d.layer) (sym i) ∙ e) m))
            ];
          };
          named = λ w m. root_rest w (q.alone w (inr m)).inside (other w m) ∙ q.named w (inr m);
          under = λ w m. q.under w (inr m);
          labels = λ w m. (e.old w (old w (q.alone w (inr m)).inside (other w m))).same_label ∙ q.labels w (inr m);
          faces = λ w m. (e.old w (old w (q.alone w (inr m)).inside (other w m))).same_face ∙ q.faces w (inr m);
          shallow = λ y l i. elim (old_or z y l) [
            | inl o ↦ rw ((e.old y o).same_level, (k.old y o).same_depth) (q.shallow y l (λ m. elim m [ inl a ↦ o.other a | inr j ↦ i j ]))
            | inr a ↦ rw (a, e.level_is, k.new.depth_is, +ℤ_one) (omega (arith, abs_suc (t.level v), q.shallow v over.inside before.0))
          ];
        }

  pub row_stores : (x door : ℕ) → join_row p n x door z ≡ stored (parts_after (column_with label x door z) (column_with face x 0 z))
      (rows (d (column_with label x door z) (column_with face x 0 z)).layer (h site))
  unfolding join_row
  row_stores x door = rw (q.named z (inl refl), q.labels z (inl refl), q.faces z (inl refl)) (stores (column_with label x door z) (column_with face x 0 z))

-- what the joins leave
pub record Joined (c : ℕ) (p p' : Parts) (n : ℕ) (target label face : ℕ → ℕ) (zs : List ℕ) (k : ℕ) : Type 0 where
  pub fits : Fits c p'
  pub joins : Joinings target label face (table_of p n) (table_of p' n) zs k
  pub roots : (y : ℕ) → y < n → ¬ Member zs y → field_at p'.fields y root_place ≡ field_at p.fields y root_place
  pub unused : (y : ℕ) → n ≤ y → y < c → Untouched (table_of p n) (table_of p' n) y

pub joins_exact : {c n : ℕ} {target label face : ℕ → ℕ} (x door : ℕ) (zs : List ℕ) {p : Parts} → Waits c p n target label face zs → Once zs → Before target zs
    → Joined c p (join_all p n x door zs).parts n target (column_with label x door) (column_with face x 0) zs (join_all p n x door zs).given
unfolding join_all
joins_exact x door [] q once before = record { fits = q.fit; joins = done; roots = λ y l i. refl; unused = λ y i l. untouched_same }
joins_exact {c} {n} {target} {label} {face} x door (z ∷ zs) {p} q once before =
    let f : ℕ = column_with label x door z in
    let s : ℕ = column_with face x 0 z in
    let rest = joins_exact x door zs (waits_on q once before f s) once.1 before.1 in
    rw (row_stores q once before x door) record {
      fits = rest.fits;
      joins = next (step q once before f s) (marked q once before f s) rest.joins;
      roots = λ y l i. rest.roots y l (λ m. i (inr m)) ∙ root_rest q once before f s y l (λ e. i (inl e));
      unused = λ y i l. untouched_trans (step_unused q once before f s y i l) (rest.unused y i l);
    }
