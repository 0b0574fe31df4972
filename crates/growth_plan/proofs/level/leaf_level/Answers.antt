-- `leaf_level`: the two tests are those of both levels.
use Rattle.growth_plan.specs.NewLevelLaws.{leaf_low, leaf_high, leaf_within, made_fits, made_at}
use Rattle.std.specs.Prelude.{Some}
use mir.ValLaws.{to_z-of_z}
use mir.Syntax.{w32}
use lib.IntN.{ℤ, pos, ◌+ℤ◌}
use mathlib.Core.Path.{◌∙◌, ap}
use Rattle.growth_plan.proofs.level.leaf_level.Goals as goal

pub returns-then-parent-lt-LOWEST_LEVEL : goal.returns-then-parent-lt-LOWEST_LEVEL
returns-then-parent-lt-LOWEST_LEVEL c = leaf_low (to_z-of_z w32 c.args.parent c.ranges.parent) c.if-parent-lt-LOWEST_LEVEL.true

pub returns-then-parent-gt-HIGHEST_PARENT : goal.returns-then-parent-gt-HIGHEST_PARENT
returns-then-parent-gt-HIGHEST_PARENT c = leaf_high (to_z-of_z w32 c.args.parent c.ranges.parent) c.if-parent-gt-HIGHEST_PARENT.true

pub overflow_add-result : goal.overflow_add-result
overflow_add-result c = let e = to_z-of_z w32 c.args.parent c.ranges.parent in rw e (made_fits (leaf_within e c.if-parent-lt-LOWEST_LEVEL.false c.if-parent-gt-HIGHEST_PARENT.false))

pub returns : goal.returns
returns c = let e = to_z-of_z w32 c.args.parent c.ranges.parent in ap Some (to_z-of_z w32 _ (overflow_add-result c) ∙ ap (λ (z : ℤ). z +ℤ pos 1) e) ∙ made_at (leaf_within e c.if-parent-lt-LOWEST_LEVEL.false c.if-parent-gt-HIGHEST_PARENT.false)
