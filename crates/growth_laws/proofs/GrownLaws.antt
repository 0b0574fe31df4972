-- What a growth leaves of the stored trees and their numbering, and what it costs.
use Rattle.std.specs.Prelude.{◌≡◌, ◌≢◌, ℕ, suc, ◌+◌, ◌*◌, ◌≤◌, ◌<◌}
use Rattle.std.proofs.Common.{◌∙◌, inl, inr, arith}
use Rattle.tree_laws.specs.Ancestor.{none}
use Rattle.tree_laws.specs.AncestorLaws.{row_some}
use Rattle.tree_laws.specs.Join.{Old}
use Rattle.tree_laws.specs.Older.{Older}
use Rattle.layer.specs.Layer.{parent}
use Rattle.layer.specs.Numbered.{Numbered}
use Rattle.table.specs.Table.{Table}
use Rattle.join_laws.specs.Joined.{Planted}
use Rattle.join_laws.proofs.JoinStep.{step_planted, join_keeps}
use Rattle.join_laws.proofs.JoinPays.{join_pays}
use Rattle.join_laws.specs.Lag.{lag, worth, per_join}
use Rattle.join_laws.proofs.LoneLaws.{parted_lag}
use Rattle.join_laws.proofs.ExtendedLaws.{old_or_new, extended_numbered, extended_parent}
use Rattle.join_laws.specs.Renumbered.{rows}
use Rattle.join_laws.proofs.Trees.{own_trees, stored}
use Rattle.growth_laws.specs.Growth.{Growth, parent_of}
use Rattle.growth_laws.specs.Grown.{Grown}

module _ {t d : Table} {g : Growth} {h : ℕ} (r : Numbered t.layer) (k : Grown t d g h) where
  pub growth_numbered : Numbered d.layer
  growth_numbered = join_keeps (extended_numbered r k.extended) k.step

  pub planted : Planted k.alone d.layer t.layer.count (parent_of g)
  planted = step_planted k.step

  pub growth_count : d.layer.count ≡ suc t.layer.count
  growth_count = planted.count ∙ k.extended.count

  pub other : {x : ℕ} → x < t.layer.count → Old k.alone.count t.layer.count x
  other l = record { inside = omega (arith, k.extended.count); other = λ e. omega arith }

  pub parent_old_lem : (x : ℕ) → x < t.layer.count → parent d.layer x ≡ parent t.layer x
  parent_old_lem x l = (planted.old x (other l)).same_parent ∙ extended_parent r k.extended x l

  pub parent_new_lem : parent d.layer t.layer.count ≡ parent_of g
  parent_new_lem = planted.new.parent_is

  pub growth_older : Older (parent t.layer) (parent d.layer) t.layer.count (λ x. x < t.layer.count)
  growth_older = record { inside = λ x l. l; above = λ x l h. r.one.inside x l h; same = parent_old_lem }

  pub over_in : parent_of g < t.layer.count
  over_in = elim (old_or_new k.extended.count (parent_of g) planted.over.inside) [ inl l ↦ l | inr e ↦ absurd (planted.over.other e) ]

  pub new_some : parent d.layer t.layer.count ≢ none
  new_some = row_some (stored (own_trees r)) over_in parent_new_lem

  -- the rows renumbered are paid for by the lag and 120 more
  pub growth_pays : worth * lag d.layer + rows d.layer h ≤ worth * lag t.layer + per_join
  growth_pays = omega (arith, join_pays (extended_numbered r k.extended) k.step, parted_lag r k.extended.parted)
