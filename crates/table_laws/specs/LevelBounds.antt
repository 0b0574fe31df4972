-- Levels are small: each is no greater in size than the depth, so none is out of range (01: "On a table that passes inspection no call gives 4").
use Rattle.std.specs.Prelude.{ℕ, zero, suc, ◌+◌, ◌≤◌, ◌<◌, ◌≢◌, ℤ, pos, negsuc, nat_abs}
use Rattle.std.proofs.Common.{arith}
use Rattle.std.proofs.Math.IntN.{suc_ℤ, pred_ℤ, +ℤ_one, -ℤ_one}
use Rattle.tree_laws.specs.Ancestor.{none, Forest}
use Rattle.tree_laws.specs.AncestorLaws.{climb}
use Rattle.tree_laws.specs.SizeDepth.{depth_below_lem}
use Rattle.layer.specs.Layer.{parent, depth}
use Rattle.table.specs.Table.{Table}
use Rattle.table.specs.Capacity.{node_limit}
use Rattle.table.specs.Level.{level_limit}
use Rattle.table.specs.Rules.{Rules}
use Rattle.table.proofs.Rules.{numbered}
use Rattle.layer_laws.proofs.Numbered.{shape, stored_tree}
use Rattle.table_laws.specs.Lines.{dec_line}

-- a level one up or down is at most one greater in size
pub abs_suc : (l : ℤ) → nat_abs (suc_ℤ l) ≤ nat_abs l + 1
abs_suc (pos n) = omega arith
abs_suc (negsuc zero) = omega arith
abs_suc (negsuc (suc n)) = omega arith

pub abs_pred : (l : ℤ) → nat_abs (pred_ℤ l) ≤ nat_abs l + 1
abs_pred (pos zero) = omega arith
abs_pred (pos (suc n)) = omega arith
abs_pred (negsuc n) = omega arith

module _ {capacity : ℕ} {t : Table} (r : Rules capacity t) (fits : capacity ≤ node_limit) where
  -- a level is no greater in size than the depth
  pub level_depth : (x : ℕ) → x < t.layer.count → nat_abs (t.level x) ≤ depth t.layer x
  level_depth = climb tree (λ x. nat_abs (t.level x) ≤ depth t.layer x) (λ x l e. rw ((r.one.lines.level x l).first e) (omega arith)) step
    where
      tree : Forest (parent t.layer) (depth t.layer) t.layer.count
      tree = stored_tree (numbered r fits)

      step : (x : ℕ) → x < t.layer.count → parent t.layer x ≢ none → nat_abs (t.level (parent t.layer x)) ≤ depth t.layer (parent t.layer x) → nat_abs (t.level x) ≤ depth t.layer x
      step x l h i =
          let d = (r.one.trees.depth x l).below h in
          elim (dec_line r fits x l) [
            | yes o ↦ rw ((r.one.lines.level x l).on_line h o, -ℤ_one) (omega (arith, abs_pred (t.level (parent t.layer x))))
            | no o ↦ rw ((r.one.lines.level x l).off_line h o, +ℤ_one) (omega (arith, abs_suc (t.level (parent t.layer x))))
          ]

  pub level_small : (x : ℕ) → x < t.layer.count → nat_abs (t.level x) ≤ level_limit
  level_small x l = let g = numbered r fits in omega (arith, level_depth x l, depth_below_lem (shape g) x l, g.one.count)
