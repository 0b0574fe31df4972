-- `give` stores two numbers.
use Rattle.growth_store.specs.Store.{given}
use Rattle.growth_store.proofs.store.give.Goals as goal

pub returns : goal.returns
unfolding given
returns c = rw (c.put_field-2.ensures, c.put_field.ensures)
