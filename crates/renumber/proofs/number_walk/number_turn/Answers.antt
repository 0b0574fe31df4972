-- `number_turn` passes a row on the way up, and numbers it on the way down.
use Rattle.renumber.specs.NumberWalkLaws.{turn_down, turn_up}
use borrow.Author.Tests.{not-true, not-false}
use Rattle.renumber.proofs.number_walk.number_turn.Goals as goal

pub returns-then-not-p : goal.returns-then-not-p
returns-then-not-p c = turn_up _ c.args.t c.heavy_last-p.result c.heavy_last-p.ensures (not-true _ c.if-not-p.true)

pub returns : goal.returns
returns c = turn_down record {
  place_is = c.heavy_last-p.ensures;
  down_is = not-false _ c.if-not-p.false;
  upper_is = c.upper_of-u.ensures;
  path_is = c.is_on_path-on_path.ensures;
  size_is = c.size_of-size.ensures;
  stored_is = c.number_row.ensures;
  apex_is = c.apex_of.ensures;
  given_is = c.one_more.ensures;
}
