-- `put_lone_numbers` stores two numbers.
use Rattle.join.specs.Lone.{lone_numbers}
use Rattle.join.proofs.lone.put_lone_numbers.Goals as goal

pub returns : goal.returns
unfolding lone_numbers
returns c = rw (c.put_number-2.ensures, c.put_number.ensures)
