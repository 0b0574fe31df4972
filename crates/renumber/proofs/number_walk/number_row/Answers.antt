-- `number_row` writes one part after the other.
use Rattle.renumber.specs.NumberWalk.{row_numbered}
use Rattle.renumber.proofs.number_walk.number_row.Goals as goal

pub returns : goal.returns
unfolding row_numbered
returns c = rw (c.put_entries.ensures, c.put_start.ensures, c.put_sizes.ensures, c.span_at-above.ensures)
