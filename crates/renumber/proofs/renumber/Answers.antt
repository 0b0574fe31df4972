-- `renumber` walks twice, and numbers the head in between.
use Rattle.renumber.specs.RenumberLaws.{renumber_walks}
use Rattle.renumber.specs.NumberWalk.{written}
use Rattle.renumber.proofs.renumber.Goals as goal

pub returns : goal.returns
returns c = let a = c.args in
    renumber_walks (written a.fields.now a.numbers.now a.ancestors.now) _ a.head _ _ _ c.steps_of-steps.ensures c.size_walk.ensures
    c.number_row.ensures c.number_walk.ensures
