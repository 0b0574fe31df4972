-- `answer_of`: the values of the fork, and the differences of levels that are within their limits.
use Rattle.query.specs.LevelLaws.{level_kept, difference_word}
use Rattle.std.proofs.Common.{rules}
use Rattle.query.proofs.answer_of.Goals as goal

pub distance-requires : goal.distance-requires
distance-requires c = record { x_bound = level_kept c.level_of-level_x.ensures (search rules); a_bound = level_kept c.level_of-level_a.ensures (search rules) }

pub distance-requires-2 : goal.distance-requires-2
distance-requires-2 c = record { x_bound = level_kept c.level_of-level_y.ensures (search rules); a_bound = level_kept c.level_of-level_a.ensures (search rules) }

pub returns : goal.returns
returns c = let top = c.level_of-level_a.ensures in
    let x = difference_word c.level_of-level_x.ensures top c.distance.ensures c.requires.levelled.small c.requires.levelled_3.small in
    let y = difference_word c.level_of-level_y.ensures top c.distance-2.ensures c.requires.levelled_2.small c.requires.levelled_3.small in
    rw (x, y, c.field_of.ensures)
