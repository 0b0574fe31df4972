-- `link` stores three links.
use Rattle.join.specs.Attach.{linked}
use Rattle.join.proofs.attach.link.Goals as goal

pub returns : goal.returns
unfolding linked
returns c = rw (c.put_field-3.ensures, c.put_field-2.ensures, c.put_field.ensures, c.first_of-first.ensures)
