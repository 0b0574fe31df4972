-- `to_level` is std's two's complement.
use Rattle.std.specs.Int.{w32}
use Rattle.std.proofs.lemmas.Int.{of_z-to_z}
use Rattle.byte_numbers.specs.SignLaws.{signed_is}
use Rattle.byte_numbers.proofs.sign.to_level.Goals as goal

pub returns : goal.returns
returns c = rw (c.cast_signed.ensures, of_z-to_z w32 c.args.x c.ranges.x.fits) (signed_is c.args.x)
