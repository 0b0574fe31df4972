-- The root of a tree is its one row without a plain parent.
use Rattle.std.specs.Prelude.{◌≡◌, ℕ, ◌≤◌, ◌<◌}
use Rattle.std.proofs.Common.{sym, ap, ◌∙◌, inl, inr}
use Rattle.tree_laws.specs.Ancestor.{none}
use Rattle.tree_laws.specs.AncestorLaws.{cases}
use Rattle.tree_laws.specs.Reroot.{plain_parent, root as top}
use Rattle.tree_laws.specs.RerootLaws.{plain_is, plain_root_over}
use Rattle.table.specs.Capacity.{node_limit}
use Rattle.table.specs.Table.{Table}
use Rattle.layer.specs.Layer.{parent, depth}
use Rattle.table.specs.PlainTree.{root, plain}
use Rattle.table.specs.Rules.{Rules}
use Rattle.table.proofs.Rules.{numbered}
use Rattle.layer_laws.specs.Numbered.{InTree}
use Rattle.layer_laws.proofs.Numbered.{stored_tree, in_tree, stored_kindred}
use Rattle.table_laws.specs.Lines.{root_in_lem}
use Rattle.table_laws.specs.LevelLaws.{plain_tree}

module _ {capacity : ℕ} {t : Table} (r : Rules capacity t) (fits : capacity ≤ node_limit) where
  pub top_root : {f x : ℕ} → InTree t.layer f x → plain t x ≡ none → x ≡ t.root f
  top_root {f} {x} i e =
      let o = root_in_lem r fits i in
      elim (cases (plain_root_over (stored_tree (numbered r fits)) o.in_use i.in_use (stored_kindred (numbered r fits) i o))) [
        | inl z ↦ sym z
        | inr s ↦ absurd (s.0 (sym (plain_tree r fits i) ∙ e))
      ]

  pub plain_root : (x : ℕ) → x < t.layer.count → plain t x ≡ none → root t x ≡ x
  plain_root x l e = sym (top_root (in_tree (numbered r fits) x l) e)

  pub root_plain : (x : ℕ) → x < t.layer.count → root t x ≡ x → plain t x ≡ none
  root_plain x l e = ap (λ (y : ℕ). plain_parent (parent t.layer) (depth t.layer) y x) e ∙ plain_is (stored_tree (numbered r fits)) l l top
