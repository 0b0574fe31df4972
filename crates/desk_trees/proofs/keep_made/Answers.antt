-- `keep_made`: the tree is written where it was made.
use Rattle.table.specs.Lent.{parts_in}
use Rattle.bytes_tree.specs.RoundTrip.{written_held}
use Rattle.desk_trees.proofs.keep_made.Goals as goal

pub returns-in-Ok : goal.returns-in-Ok
returns-in-Ok c =
    let a = c.args in
    record {
      answer = rw (c.in-Ok.is, c.write_tree.ensures.bytes);
      held = rw c.in-Ok.is
          (written_held _ c.in-Ok.empty (parts_in a.parts.now) a.tally.now c.requires.fits c.requires.tally_len
          c.write_tree.ensures.bytes c.write_tree.ensures.range);
    }

pub returns-in-Err : goal.returns-in-Err
returns-in-Err c = record { answer = rw (c.in-Err.is, c.from.ensures); held = rw c.in-Err.is tt }
