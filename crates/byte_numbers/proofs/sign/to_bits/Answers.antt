-- `to_bits` is std's two's complement.
use Rattle.std.proofs.Common.{◌∙◌}
use Rattle.std.specs.Int.{w32}
use Rattle.std.proofs.lemmas.Int.{to_z-of_z}
use Rattle.byte_numbers.specs.SignLaws.{unsigned_is}
use Rattle.byte_numbers.proofs.sign.to_bits.Goals as goal

pub returns : goal.returns
returns c = c.cast_unsigned.ensures ∙ rw (to_z-of_z w32 c.args.z c.ranges.z) (unsigned_is c.args.z)
