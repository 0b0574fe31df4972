-- `distance`: two levels within their limits, and so their difference fits.
use lib.IntN.{◌-ℤ◌}
use mir.Syntax.{w32}
use mir.ValLaws.{to_z-of_z}
use Rattle.table.proofs.LevelLaws.{level_fits, difference_fits}
use Rattle.table.proofs.level.distance.Goals as goal

pub overflow_sub-result : goal.overflow_sub-result
overflow_sub-result c = let a = c.args in
    rw (to_z-of_z w32 a.x (level_fits a.x c.requires.x_bound), to_z-of_z w32 a.a (level_fits a.a c.requires.a_bound))
    (difference_fits a.x a.a c.requires.x_bound c.requires.a_bound)

pub returns : goal.returns
returns c = let a = c.args in
    rw (to_z-of_z w32 a.x (level_fits a.x c.requires.x_bound), to_z-of_z w32 a.a (level_fits a.a c.requires.a_bound))
    (to_z-of_z w32 (a.x -ℤ a.a) (difference_fits a.x a.a c.requires.x_bound c.requires.a_bound))
