-- `put_lone_fields` stores nine fields.
use Rattle.join.specs.Lone.{lone_fields}
use Rattle.join.proofs.lone.put_lone_fields.Goals as goal

pub returns : goal.returns
unfolding lone_fields
returns c = rw (c.put_field-3.ensures, c.put_field-2.ensures, c.put_field.ensures, c.put_links.ensures)
