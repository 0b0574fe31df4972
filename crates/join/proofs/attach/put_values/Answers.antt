-- `put_values` stores three fields.
use Rattle.join.specs.Attach.{new_values}
use Rattle.join.proofs.attach.put_values.Goals as goal

pub returns : goal.returns
unfolding new_values
returns c = rw (c.put_field-3.ensures, c.put_field-2.ensures, c.put_field.ensures)
