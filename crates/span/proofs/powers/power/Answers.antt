-- `power`: past the arms the index is past the list.
use Rattle.std.proofs.Common.{sym, arith}
use lib.ListN.{get_or-eq_default}
use Rattle.span.specs.Constants.{over}
use Rattle.span.specs.PowerList.{power_list}
use Rattle.span.proofs.powers.power.Goals as goal

pub returns-in_default : goal.returns-in_default
unfolding power_list
returns-in_default c = sym (get_or-eq_default power_list over {n = c.args.i} (omega arith))
