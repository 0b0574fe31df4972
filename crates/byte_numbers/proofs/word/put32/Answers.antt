-- `put32` stores the number's bytes at its place.
use Rattle.byte_numbers.specs.BytesLaws.{stored}
use Rattle.std.proofs.Common.{◌∙◌}
use Rattle.byte_numbers.proofs.word.put32.Goals as goal

pub returns : goal.returns
returns c = let a = c.args in stored a.b.now c.copy_from_slice.new.self a.i 4 a.x c.requires (c.copy_from_slice.ensures.after ∙ c.to_le_bytes.ensures)
