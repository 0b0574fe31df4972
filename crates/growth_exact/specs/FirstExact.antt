-- A first node on a table that passes inspection: served, and what it answers and leaves is a row more that stands alone (02, "each begun by a call
-- for its first node"). 01's new root of an empty table is one.
use Rattle.std.specs.Prelude.{◌≡◌, Bool, List, ℕ, suc, ◌+◌, ◌*◌, ◌≤◌, ◌<◌, pos, Ok}
use Rattle.std.proofs.Math.Path.{refl, ap}
use Rattle.std.proofs.Common.{◌∙◌, arith, length-set, get_or-set_other, le-leb}
use Rattle.std.proofs.Math.Seq.{get_or-set_same}
use Rattle.table.specs.declared.state.State.{State}
use Rattle.laws.specs.Test.{says_true}
use Rattle.layer.specs.Layout.{field_stride, depth_place}
use Rattle.table.specs.Layout.{label_place, face_place, root_place}
use Rattle.table.specs.Parts.{Parts, parts_of, with_level}
use Rattle.table.specs.Capacity.{Fits}
use Rattle.table.specs.Table.{Table, table_of}
use Rattle.table.specs.Rules.{Rules}
use Rattle.table.proofs.Rules.{numbered}
use Rattle.table.specs.Scratch.{least_scratch}
use Rattle.tally.specs.Tally.{TallyOf}
use Rattle.tally.specs.FitLaws.{with_told}
use Rattle.tally.specs.Count.{counted}
use Rattle.tally_exact.proofs.CountExact.{counted_tallied}
use Rattle.tally_exact.specs.RoomExact.{tallied_room}
use Rattle.join_laws.proofs.Extend.{extended_by}
use Rattle.growth_laws.specs.Growth.{Opens}
use Rattle.growth_laws.specs.Grown.{Started}
use Rattle.growth_laws.specs.GrowthFrame.{StartFrame}
use Rattle.growth_laws.proofs.GrowthKeepsRules.{start_keeps_rules, start_plain}
use Rattle.join_laws.specs.Lag.{lag, worth, per_join}
use Rattle.join_laws.proofs.LoneLaws.{parted_lag}
use Rattle.growth_laws.specs.PlainStep.{PlainStart}
use Rattle.growth_plan.specs.declared.row.Planned.TheVariants.{Start}
use Rattle.join.specs.Lone.{lone_numbers, lone_entries}
use Rattle.growth_plan.specs.Plan.{root_plan}
use Rattle.growth_plan.specs.PlanLaws.{first_row, root_first}
use Rattle.growth.specs.Outcome.{node}
use Rattle.growth.specs.Growth.{Result, growth_result, node_at, started, grown_at, grown_by, add_first, add_root}
use Rattle.growth_store.specs.Start.{started_fields}
use Rattle.renumber_laws.specs.Column.{put}
use Rattle.renumber_laws.proofs.Column.{put_other}
use Rattle.renumber_exact.specs.Columns.{RowView, row_set}
use Rattle.join_exact.proofs.LoneExact.{own, fields, lone_long, lone_in, kept_in}
use Rattle.growth_exact.specs.GivenMarks.{says_opening}
use Rattle.growth_exact.specs.PlanExact.{layer_parts, long_parts}
use Rattle.growth_exact.specs.GrowthExact.{table_grown, capacity_is, standing_is, count_more}

-- a first node of the parts p, of capacity c, came out as o: served, and as 02 has it
pub record StartedExactly (c : ℕ) (p : Parts) (s : State) (o : Result) : Type 0 where
  -- the new number is the old count, one row was numbered, and it heads itself
  pub answered : o.outcome ≡ node (suc s.count) s.count 1 s.count
  -- the parts keep their lengths
  pub fits : Fits c o.parts
  -- one row more, that stands alone and is its own root; the others are as they were
  pub started : Started (table_of p s.count) (table_grown s o)
  -- the table passes inspection again
  pub rules : Rules c (table_grown s o)
  -- and so does the tally
  pub tally : TallyOf (table_grown s o) o.tally
  -- the plain trees are one step of the plain list on
  pub plain : PlainStart (table_of p s.count) (table_grown s o)
  -- what did not change: every other row
  pub frame : StartFrame c (table_of p s.count) (table_grown s o)
  -- the row is paid for
  pub pays : worth * lag (table_grown s o).layer + 1 ≤ worth * lag (table_of p s.count).layer + per_join

module _ {c : ℕ} (p : Parts) (s : State) (fit : Fits c p) (r : Rules c (table_of p s.count)) (room : s.count < c) where
  abbrev n : ℕ
  n = s.count

  abbrev t : Table
  t = table_of p n

  abbrev left : Parts
  left = parts_of (started_fields p.fields n) (lone_numbers p.numbers n) (with_level p.levels n (pos 0)) (lone_entries p.ancestors n)

  abbrev row : ℕ → ℕ
  row = put (put (put (own (layer_parts p) (long_parts fit) n room) label_place 0) face_place 0) root_place n

  view : RowView field_stride c p.fields n (started_fields p.fields n) row
  unfolding started_fields
  view =
      row_set _ (row_set _ (row_set _ (fields (layer_parts p) (long_parts fit) n room) room label_place 0 (omega arith)) room face_place 0 (omega arith)) room root_place n (omega arith)

  same : (j : ℕ) → j ≤ depth_place → row j ≡ own (layer_parts p) (long_parts fit) n room j
  same j b = put_other (put (put (own (layer_parts p) (long_parts fit) n room) label_place 0) face_place 0) root_place n j (λ e. omega arith)
      ∙ put_other (put (own (layer_parts p) (long_parts fit) n room) label_place 0) face_place 0 j (λ e. omega arith)
      ∙ put_other (own (layer_parts p) (long_parts fit) n room) label_place 0 j (λ e. omega arith)

  start_frame : StartFrame c t (table_of left (suc n))
  start_frame x l d = record {
    row = kept_in (layer_parts p) (long_parts fit) n room view same n (suc n) x d;
    marks = record {
      same_label = view.others x label_place (omega arith) d;
      same_face = view.others x face_place (omega arith) d;
      same_level = get_or-set_other p.levels n x (pos 0) (pos 0) d;
    };
    same_root = view.others x root_place (omega arith) d;
  }

  started_is : Started t (table_of left (suc n))
  unfolding put
  started_is =
      record {
        extended = extended_by (numbered r fit.most) (omega (arith, fit.most)) refl
            (lone_in (layer_parts p) (long_parts fit) n room view same (suc n))
            (λ x l. (start_frame x (omega arith) (λ e. omega arith)).row);
        marks = λ x l. (start_frame x (omega arith) (λ e. omega arith)).marks;
        label_new = view.own label_place (omega arith);
        face_new = view.own face_place (omega arith);
        level_new = get_or-set_same p.levels n (pos 0) (pos 0) (omega (arith, fit.levels));
        root_new = view.own root_place (omega arith);
        roots = λ x l. (start_frame x (omega arith) (λ e. omega arith)).same_root;
      }

  module _ (w : List ℕ) (k : TallyOf t w) (scratch : ℕ) (long : least_scratch ≤ scratch) where
    start_is : grown_by p w scratch (Ok (Start n)) ≡ growth_result left (counted w 0) (node_at n 1 n)
    unfolding grown_by grown_at started
    start_is = rw (le-leb least_scratch scratch long, with_told p w fit k.long, tallied_room k {k = 0} room (omega arith))

    start_exactly : StartedExactly c p s (grown_by p w scratch (Ok (Start n)))
    start_exactly =
        let f = lone_long (layer_parts p) (long_parts fit) n room in
        let plainly = start_plain r fit.most room started_is in
        rw start_is record {
          answered = count_more n p fit room 1 n;
          fits = record {
            least = fit.least;
            most = fit.most;
            levels = length-set p.levels n (pos 0) ∙ fit.levels;
            fields = view.holds.long;
            numbers = f.numbers;
            ancestors = f.ancestors;
          };
          started = started_is;
          rules = start_keeps_rules r fit.most room started_is;
          tally = counted_tallied k plainly.label_old plainly.label_new;
          plain = plainly;
          frame = start_frame;
          pays = omega (arith, parted_lag (numbered r fit.most) started_is.extended.parted);
        }

    -- the calls
    pub first_exact : StartedExactly c p s (add_first p w scratch s)
    unfolding add_first
    first_exact = rw (← first_row p s c (capacity_is p fit) (λ e. omega arith) (standing_is p s r)) start_exactly

    -- 01's new root where there is no node yet: an opening is not used
    pub root_first_exact : (named : Bool) (opening : ℕ) → Opens named opening → s.count ≡ 0 → StartedExactly c p s (add_root p w scratch s named opening)
    unfolding add_root
    root_first_exact named opening through z =
        let e : Ok (Start n) ≡ root_plan p s named opening = ap (λ (m : ℕ). Ok (Start m)) z
        ∙ root_first p s named opening c (capacity_is p fit) (says_true (says_opening named opening) through) (λ e. omega arith) (standing_is p s r) z in
        rw (← e) start_exactly
