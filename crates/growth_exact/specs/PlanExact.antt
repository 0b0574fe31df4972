-- At a site a row is planned with its marks, and what is stored by the plan is a join in the layer, with the label, the face, the level and the root record asked for.
use Rattle.std.specs.Prelude.{◌≡◌, ◌⊎◌, ◌≢◌, ℕ, ◌≤◌, ◌<◌, pos, Ok}
use Rattle.std.proofs.Math.Path.{ap}
use Rattle.std.proofs.Common.{sym, ◌∙◌, inl, inr, arith, length-set, get_or-set_same, get_or-set_other}
use Rattle.tree_laws.specs.Ancestor.{none}
use Rattle.layer.specs.Layout.{field_stride}
use Rattle.layer.specs.Row.{field_at}
use Rattle.layer.specs.Layer.{Layer}
use Rattle.table.specs.Layout.{label_place, face_place, root_place}
use Rattle.table.specs.Parts.{Parts, parts_of, level_at, with_level}
use Rattle.table.specs.Capacity.{Fits}
use Rattle.table.specs.Table.{Table, table_of}
use Rattle.renumber.specs.NumberWalk.{Written, written}
use Rattle.join_laws.specs.JoinStep.{JoinStep}
use Rattle.join_laws.specs.Renumbered.{rows}
use Rattle.growth_laws.specs.GrowthFrame.{Untouched}
use Rattle.growth_plan.specs.declared.row.Marks.{Marks}
use Rattle.growth_plan.specs.declared.row.Plan.{Plan}
use Rattle.growth_plan.specs.declared.row.Planned.TheVariants.{Grow}
use Rattle.growth_plan.specs.PlannedRow.{planned_row}
use Rattle.growth_plan.specs.PlannedRowLaws.{on_seat}
use Rattle.growth_store.specs.Store.{stored, marked, with_marks, plan_stored}
use Rattle.renumber_laws.specs.Column.{put}
use Rattle.renumber_laws.proofs.Column.{put_other}
use Rattle.renumber_exact.specs.Lent.{Long}
use Rattle.renumber_exact.specs.Columns.{Holds, put_at}
use Rattle.join_exact.proofs.Site.{Site}
use Rattle.join_exact.proofs.SeatExact.{h, seat, seat_found, joined_parts as joined, joined_layer, site_stored, site_long, site_step, site_rest, site_unused}
use Rattle.growth_exact.specs.MarksExact.{Given, given_before, marked_holds, marked_layer, label_after, face_after, root_after}

-- the parts of a table that are its layer's
abbrev pub layer_parts : Parts → Written
layer_parts p = written p.fields p.numbers p.ancestors

pub long_parts : {c : ℕ} {p : Parts} → Fits c p → Long c (layer_parts p)
long_parts f = record { most = omega (arith, f.most); fields = f.fields; numbers = f.numbers; ancestors = f.ancestors }

module _ {c k : ℕ} {p : Parts} {t : Layer} {z v : ℕ} (fit : Fits c p) (s : Site c (layer_parts p) k t z v) (m : Marks) where
  abbrev pub plan : Plan
  plan = record { seat = seat s; marks = m }

  pub row_planned : planned_row p.fields p.numbers p.ancestors k z v m ≡ Ok (Grow plan)
  row_planned = sym (on_seat p.fields p.numbers p.ancestors k z v m (seat s) (sym (seat_found s)))

  -- What is stored by it

  abbrev pub joined_parts : Parts
  joined_parts = parts_of (marked (joined s).fields z m) (joined s).numbers (with_level p.levels z m.level) (joined s).ancestors

  abbrev pub joined_table : Table
  joined_table = table_of joined_parts t.count

  holds : Holds field_stride c (joined s).fields
  holds = record { most = fit.most; long = (site_long s).fields }

  pub layer_same : joined_table.layer ≡ joined_layer s
  layer_same = marked_layer holds z m (joined s).numbers (joined s).ancestors t.count

  pub plan_stored_lem : plan_stored p k plan ≡ stored joined_parts (rows joined_table.layer (h s))
  unfolding plan_stored
  plan_stored_lem = ap (with_marks p.levels plan) (site_stored s) ∙ ap (λ (x : Layer). stored joined_parts (rows x (h s))) (sym layer_same)

  pub plan_fits : Fits c joined_parts
  plan_fits = record {
    least = fit.least;
    most = fit.most;
    levels = length-set p.levels z m.level ∙ fit.levels;
    fields = (marked_holds holds z m).long;
    numbers = (site_long s).numbers;
    ancestors = (site_long s).ancestors;
  }

  pub plan_step : JoinStep t joined_table.layer z v (h s)
  plan_step = rw layer_same (site_step s)

  -- The marks

  row_in : z < c
  row_in = omega (arith, s.alone.inside, s.room)

  pub mark_level : joined_table.level z ≡ m.level
  mark_level = get_or-set_same p.levels z m.level (pos 0) (omega (arith, fit.levels, row_in))

  pub kept_level : (y : ℕ) → y ≢ z → joined_table.level y ≡ level_at p.levels y
  kept_level y d = get_or-set_other p.levels z y m.level (pos 0) d

  pub plan_roots : (m.tree ≡ none) ⊎ (m.tree < c) → (y : ℕ) → y < c → y ≢ z → joined_table.root y ≡ put (λ x. field_at p.fields x root_place) m.tree z y
  plan_roots i y b d = root_after holds z m row_in i y b d
      ∙ put_at (λ x. field_at (joined s).fields x root_place) (λ x. field_at p.fields x root_place) m.tree z y (site_rest s y root_place (omega arith) (omega arith))

  -- the row that takes the label and the face is z or another one
  module _ (within : m.labelled < c) where
    pub plan_label : Given (λ x. field_at p.fields x label_place) joined_table.label z m.labelled m.label
    plan_label = given_before (λ y. site_rest s y label_place (omega arith) (omega arith)) (label_after holds z m row_in within)

    pub plan_face : Given (λ x. field_at p.fields x face_place) joined_table.face z m.labelled m.face
    plan_face = given_before (λ y. site_rest s y face_place (omega arith) (omega arith)) (face_after holds z m row_in within)

  -- a row that is not in use, against the table of n rows before
  pub plan_unused : m.labelled < t.count → (m.tree ≡ none) ⊎ (m.tree < t.count) → (n x : ℕ) → t.count ≤ x → x < c → Untouched (table_of p n) joined_table x
  plan_unused b o n x i l =
      let d : x ≢ z = λ e. omega (arith, s.alone.inside) in
      let e : x ≢ m.labelled = λ e. omega arith in
      let a : m.labelled < c = omega (arith, s.room) in
      record {
        row = rw layer_same (site_unused s n x i l);
        marks = record { same_label = (plan_label a).kept x d e; same_face = (plan_face a).kept x d e; same_level = kept_level x d };
        same_root = plan_roots (within o) x l d ∙ put_other (λ y. field_at p.fields y root_place) m.tree z x (λ e. past e o);
      }
    where
      within : (m.tree ≡ none) ⊎ (m.tree < t.count) → (m.tree ≡ none) ⊎ (m.tree < c)
      within (inl e) = inl e
      within (inr j) = inr (omega (arith, s.room))

      past : x ≡ m.tree → (m.tree ≡ none) ⊎ (m.tree < t.count) → ⊥
      past e (inl j) = omega (arith, fit.most)
      past e (inr j) = omega arith
