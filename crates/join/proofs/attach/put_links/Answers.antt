-- `put_links` stores six fields.
use Rattle.join.specs.Attach.{new_links}
use Rattle.join.proofs.attach.put_links.Goals as goal

pub returns : goal.returns
unfolding new_links
returns c = rw (c.put_field-6.ensures, c.put_field-5.ensures, c.put_field-4.ensures, c.put_field-3.ensures, c.put_field-2.ensures, c.put_field.ensures)
