-- `root_level`: the two tests are those of both levels.
use Rattle.growth_plan.specs.NewLevelLaws.{root_low, root_high, root_within, made_fits, made_at}
use Rattle.std.specs.Prelude.{Some}
use mir.ValLaws.{to_z-of_z}
use mir.Syntax.{w32}
use lib.IntN.{ℤ, pos, ◌-ℤ◌}
use mathlib.Core.Path.{◌∙◌, ap}
use Rattle.growth_plan.proofs.level.root_level.Goals as goal

pub returns-then-root-lt-LOWEST_ROOT : goal.returns-then-root-lt-LOWEST_ROOT
returns-then-root-lt-LOWEST_ROOT c = root_low (to_z-of_z w32 c.args.root c.ranges.root) c.if-root-lt-LOWEST_ROOT.true

pub returns-then-root-gt-HIGHEST_LEVEL : goal.returns-then-root-gt-HIGHEST_LEVEL
returns-then-root-gt-HIGHEST_LEVEL c = root_high (to_z-of_z w32 c.args.root c.ranges.root) c.if-root-gt-HIGHEST_LEVEL.true

pub overflow_sub-result : goal.overflow_sub-result
overflow_sub-result c = let e = to_z-of_z w32 c.args.root c.ranges.root in rw e (made_fits (root_within e c.if-root-lt-LOWEST_ROOT.false c.if-root-gt-HIGHEST_LEVEL.false))

pub returns : goal.returns
returns c = let e = to_z-of_z w32 c.args.root c.ranges.root in ap Some (to_z-of_z w32 _ (overflow_sub-result c) ∙ ap (λ (z : ℤ). z -ℤ pos 1) e) ∙ made_at (root_within e c.if-root-lt-LOWEST_ROOT.false c.if-root-gt-HIGHEST_LEVEL.false)
