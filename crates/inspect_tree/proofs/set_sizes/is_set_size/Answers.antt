-- `is_set_size`: not outgrown is 5 s < 6 σ.
use Rattle.inspect_tree.specs.SetSizesBy.{set_size_by}
use Rattle.inspect_tree.proofs.set_sizes.is_set_size.Goals as goal

pub returns : goal.returns
returns c = simp (← c.field-size.ensures, ← c.field-set.ensures) (set_size_by c.field-size.result c.field-set.result c.outgrown-grown.ensures)
