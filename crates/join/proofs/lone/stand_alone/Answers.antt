-- `stand_alone` stores the fields, the numbers and the entries.
use Rattle.join.specs.Lone.{lone_entries}
use Rattle.join.proofs.lone.stand_alone.Goals as goal

pub returns : goal.returns
unfolding lone_entries
returns c = record { fields = c.put_lone_fields.ensures; numbers = c.put_lone_numbers.ensures; ancestors = c.put_entries.ensures }
