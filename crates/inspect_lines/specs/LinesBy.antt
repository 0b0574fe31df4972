-- Lines and levels from the answers of their passes.
use Rattle.std.specs.Prelude.{◌≡◌, true, ◌⊎◌, List, ℕ, zero, suc, ◌≤◌, ◌<◌, ℤ, length}
use Rattle.std.proofs.Common.{◌∙◌, inl, inr, arith}
use Rattle.std.proofs.Math.Decide.{ℕ_discrete}
use Rattle.laws.specs.Test.{Says, fails, all_to, says_map, says_or, says_and, says_not, says_eq, says_get, says_eqb}
use Rattle.tree_laws.specs.Ancestor.{none, Anc, here, Forest}
use Rattle.tree_laws.specs.AncestorLaws.{linear, cases, anc_in, says_is_ancestor}
use Rattle.layer.specs.Layer.{parent, depth}
use Rattle.layer.specs.Numbered.{Each}
use Rattle.table.specs.Table.{Table}
use Rattle.table.specs.Line.{OnLine}
use Rattle.inspect_laws.proofs.All.{all_same}
use Rattle.inspect_tree.specs.Stored.{Stored, stored_forest}
use Rattle.inspect_lines_laws.specs.Lines.{is_on_line, is_level_on, are_roots, are_levels}
use Rattle.inspect_lines_laws.proofs.LinesLaws.{RecordedRoot, says_roots, says_line}
use Rattle.inspect_lines.specs.Columns.{field_table, level_table}
use Rattle.inspect_lines.specs.Marks.{LinesTo, is_on_lines, is_level_by_mark}

-- x is met from the root of a first row below m
record Met (t : Table) (m x : ℕ) : Type 0 where
  first : ℕ
  below : first < m
  top : parent t.layer first ≡ none
  over : Anc (parent t.layer) x (t.root first)

module _ (t : Table) (forest : Forest (parent t.layer) (depth t.layer) t.layer.count) (s : Each t.layer (RecordedRoot t)) where
  says_met : (m x : ℕ) → m ≤ t.layer.count → Says (Met t m x) (is_on_lines t m x)
  says_met zero x l = fails (λ h. omega (arith, h.below))
  says_met (suc m) x l = says_map to from (says_or (says_met m x (omega arith)) (says_and (says_eqb (parent t.layer m) none) (λ e.
      let i = (s m (omega arith) e).in_use in
      says_and (says_not (says_eqb (t.root m) none)) (λ _. says_is_ancestor forest x (t.root m) i))))
    where
      One : Type 0
      One = (parent t.layer m ≡ none) × ((t.root m ≡ none → ⊥) × Anc (parent t.layer) x (t.root m))

      to : Met t m x ⊎ One → Met t (suc m) x
      to (inl h) = record { first = h.first; below = omega (arith, h.below); top = h.top; over = h.over }
      to (inr h) = record { first = m; below = omega arith; top = h.0; over = h.1.1 }

      from : Met t (suc m) x → Met t m x ⊎ One
      from h = elim (ℕ_discrete h.first m) [
        | yes e ↦ inr (rw e at h.top, (λ z. omega (arith, forest.small, (s m (omega arith) (rw e at h.top)).in_use), rw e at h.over))
        | no d ↦ inl record { first = h.first; below = omega (arith, h.below); top = h.top; over = h.over }
      ]

  -- the marks are the line of each tree
  pub lines_line : (x : ℕ) → x < t.layer.count → is_on_lines t t.layer.count x ≡ is_on_line t x
  lines_line x l = says_eq to from (says_met t.layer.count x (omega arith)) (says_line t forest s x l)
    where
      to : Met t t.layer.count x → OnLine t x
      to h = record { first = h.first; is = record { over = up; top = h.top }; over = h.over }
        where
          up : Anc (parent t.layer) h.first x
          up = elim (linear (s h.first h.below h.top).over h.over) [
            | inl p ↦ p
            | inr p ↦ elim (cases p) [ inl e ↦ rw e here | inr q ↦ absurd (q.0 h.top) ]
          ]

      from : OnLine t x → Met t t.layer.count x
      from o = record { first = o.first; below = anc_in forest l o.is.over; top = o.is.top; over = o.over }

-- the levels by the marks are the levels by the lines
pub marked_levels : {f : List ℕ} (l : List ℤ) {n : ℕ} {s : List ℕ} → Stored f n → are_roots (field_table f n) ≡ true → n ≤ length s → LinesTo (field_table f n) n s
    → all_to (is_level_by_mark (level_table f l 0) s) n ≡ are_levels (level_table f l n)
marked_levels {f} l {n} {s} t c long m =
    let forest = stored_forest t in
    all_same (is_level_by_mark (level_table f l 0) s) (λ x. is_level_on (level_table f l n) (is_on_line (level_table f l n) x) x) n (λ x i.
    rw (m.each x (omega arith) ∙ lines_line (field_table f n) forest (says_get (says_roots (field_table f n) forest) c) x i))
