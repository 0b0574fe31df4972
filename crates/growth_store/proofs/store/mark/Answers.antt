-- `mark` gives a label and a face, and stores two roots.
use Rattle.growth_store.specs.Store.{marked}
use Rattle.growth_store.proofs.store.mark.Goals as goal

pub returns : goal.returns
unfolding marked
returns c = rw (c.put_field-2.ensures, c.put_field.ensures, c.give-2.ensures, c.give.ensures)
