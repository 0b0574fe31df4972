-- The array is the list, and so follows its rule.
use mathlib.Core.Path.{refl}
use Rattle.span.specs.PowerList.{power_list}
use Rattle.span.specs.PowerLaws.{list_rule}
use Rattle.span.proofs.powers.all_powers.Goals as goal

pub returns : goal.returns
unfolding power_list
returns c = record { list = refl; rule = list_rule }
