-- `start`: the row stands alone, and its label, face, root and level are stored.
use Rattle.growth_store.specs.Start.{started_fields}
use Rattle.growth_store.proofs.start.start.Goals as goal

pub returns-clause-fields : goal.returns-clause-fields
unfolding started_fields
returns-clause-fields c = rw (c.put_field-3.ensures, c.put_field-2.ensures, c.put_field.ensures, c.stand_alone.ensures.fields)
