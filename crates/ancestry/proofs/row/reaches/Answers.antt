-- `reaches`: the reach is so many parts, and within the limit.
use native.Mathlib.Omega.{arith}
use Rattle.ancestry.proofs.row.reaches.Goals as goal

pub overflow_mul-result : goal.overflow_mul-result
overflow_mul-result c = rw (c.part.ensures, c.field_of.ensures) record { fits = omega (arith, c.requires.set_size_place_bound) }

pub returns : goal.returns
returns c = rw (c.part.ensures, c.field_of.ensures)
