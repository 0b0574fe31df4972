-- The test of lines and levels says that they are true, where the stored trees are.
use Rattle.std.specs.Prelude.{◌≡◌, Bool, true, false, ℕ, ◌<◌, eqb, ℤ, pos}
use Rattle.laws.specs.Test.{Says, holds, fails, says_map, says_and, says_ltb, says_eqb, says_all}
use Rattle.tree_laws.specs.Ancestor.{none, Anc, Forest}
use Rattle.tree_laws.specs.AncestorLaws.{anc_in, says_is_ancestor}
use Rattle.tree_laws.specs.Top.{top_first, top_is, first_one}
use Rattle.layer.specs.Layer.{Layer, parent, depth}
use Rattle.layer.specs.StoredTree.{first}
use Rattle.layer.specs.Numbered.{Each}
use Rattle.table.specs.Level.{eq_z}
use Rattle.table.proofs.LevelLaws.{says_eq_z}
use Rattle.table.specs.Table.{Table}
use Rattle.table.specs.PlainTree.{root}
use Rattle.table.specs.Line.{Rooted, OnLine, Level}
use Rattle.table.specs.Rules.{Lines}
use Rattle.inspect_laws.proofs.Choice.{says_pick, says_if}
use Rattle.inspect_lines_laws.specs.Lines.{is_rooted, is_on_line, level_below, is_level_on, are_roots, are_lines}

-- the first row f of a tree records a root
abbrev pub RecordedRoot : Table → ℕ → Type 0
RecordedRoot t f = parent t.layer f ≡ none → Rooted t f

in_tree : (t : Layer) → Forest (parent t) (depth t) t.count → {r : ℕ} (f : ℕ) → parent t f ≡ none → r < t.count → Says (Anc (parent t) f r) (eqb (first t r) f)
in_tree t forest {r} f e l = says_map (λ z. rw z at (top_first forest r l).over) (λ p. top_is forest l record { over = p; top = e }) (says_eqb (first t r) f)

module _ (t : Table) (forest : Forest (parent t.layer) (depth t.layer) t.layer.count) where
  says_recorded_root : (f : ℕ) → Says (RecordedRoot t f) (is_rooted t f)
  says_recorded_root f = says_if (says_eqb (parent t.layer f) none) (λ e. says_map
      (λ h. record { in_use = h.0; over = h.1 })
      (λ s. (s.in_use, s.over))
      (says_and (says_ltb (t.root f) t.layer.count) (λ l. in_tree t.layer forest {r = t.root f} f e l)))

  pub says_roots : Says (Each t.layer (RecordedRoot t)) (are_roots t)
  says_roots = says_all (is_rooted t) t.layer.count (λ f l. says_recorded_root f)

  -- the line of each tree
  pub says_line : Each t.layer (RecordedRoot t) → Each t.layer (λ x. Says (OnLine t x) (is_on_line t x))
  says_line s x l =
      let f = top_first forest x l in
      says_map
      (λ p. record { first = first t.layer x; is = f; over = p })
      (λ o. rw (first_one o.is f) at o.over)
      (says_is_ancestor forest x (root t x) (s (first t.layer x) (anc_in forest l f.over) f.top).in_use)

says_level : (t : Table) (x : ℕ) → Says (OnLine t x) (is_on_line t x) → Says (Level t x) (is_level_on t (is_on_line t x) x)
says_level t x line = says_map
    (λ h. record { first = h.0; on_line = λ d. (h.1 d).0; off_line = λ d. (h.1 d).1 })
    (λ p. (p.first, λ d. (p.on_line d, p.off_line d)))
    (says_pick (says_eqb (parent t.layer x) none) (λ _. says_eq_z (t.level x) (pos 0)) (λ _. go line))
  where
    above : ℤ
    above = t.level (parent t.layer x)

    go : {b : Bool} → Says (OnLine t x) b
        → Says ((OnLine t x → t.level x ≡ level_below true above) × ((OnLine t x → ⊥) → t.level x ≡ level_below false above)) (eq_z (t.level x) (level_below b above))
    go (holds o) = says_map (λ e. (λ _. e, λ n. absurd (n o))) (λ h. h.0 o) (says_eq_z (t.level x) (level_below true above))
    go (fails n) = says_map (λ e. (λ o. absurd (n o), λ _. e)) (λ h. h.1 n) (says_eq_z (t.level x) (level_below false above))

pub says_lines : (t : Table) → Forest (parent t.layer) (depth t.layer) t.layer.count → Says (Lines t) (are_lines t)
unfolding are_lines
says_lines t forest = says_map
    (λ h. record { root = h.0; level = h.1 })
    (λ r. (r.root, r.level))
    (says_and (says_roots t forest) (λ s.
    says_all (λ x. is_level_on t (is_on_line t x) x) t.layer.count (λ x l. says_level t x (says_line t forest s x l))))
