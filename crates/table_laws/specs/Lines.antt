-- The line of each tree, from its first row to its root, and the root itself.
use Rattle.std.specs.Prelude.{◌≡◌, ℕ, ◌≤◌, ◌<◌}
use Rattle.std.proofs.Common.{ap, sym, ◌∙◌}
use Rattle.tree_laws.specs.Ancestor.{Anc}
use Rattle.tree_laws.specs.AncestorLaws.{dec_anc}
use Rattle.tree_laws.specs.Top.{first_one}
use Rattle.table.specs.Capacity.{node_limit}
use Rattle.layer.specs.StoredTree.{first}
use Rattle.table.specs.PlainTree.{root}
use Rattle.table.specs.Table.{Table}
use Rattle.layer.specs.Layer.{parent}
use Rattle.table.specs.Line.{OnLine}
use Rattle.table.specs.Rules.{Rules}
use Rattle.table.proofs.Rules.{numbered}
use Rattle.layer_laws.specs.Numbered.{InTree}
use Rattle.layer_laws.proofs.Numbered.{stored_tree, in_tree, first_in}

module _ {capacity : ℕ} {t : Table} (r : Rules capacity t) (fits : capacity ≤ node_limit) where
  -- the root of a tree is one of its rows
  pub root_in_lem : {f x : ℕ} → InTree t.layer f x → InTree t.layer f (t.root f)
  root_in_lem {f} i =
      let s = r.one.lines.root f (first_in (numbered r fits) i) i.is.top in
      record { in_use = s.in_use; is = record { over = s.over; top = i.is.top } }

  -- and has label 0
  pub root_label : {x : ℕ} → x < t.layer.count → root t x ≡ x → t.label x ≡ 0
  root_label {x} l e =
      let i = in_tree (numbered r fits) x l in
      ap t.label (sym e) ∙ r.one.labels.root (first t.layer x) (first_in (numbered r fits) i) i.is.top

  -- a row of the tree of f lies on the line exactly where it is over that tree's root
  pub line_over : {f x : ℕ} → InTree t.layer f x → OnLine t x → Anc (parent t.layer) x (t.root f)
  line_over {f} {x} i o = rw (first_one o.is i.is) at o.over

  pub over_line : {f x : ℕ} → InTree t.layer f x → Anc (parent t.layer) x (t.root f) → OnLine t x
  over_line {f} i p = record { first = f; is = i.is; over = p }

  pub dec_line : (x : ℕ) → x < t.layer.count → Dec (OnLine t x)
  dec_line x l =
      let i = in_tree (numbered r fits) x l in
      elim (dec_anc (stored_tree (numbered r fits)) x (t.root (first t.layer x)) (root_in_lem i).in_use) [
        | yes p ↦ yes (over_line i p)
        | no d ↦ no (λ o. d (line_over i o))
      ]
