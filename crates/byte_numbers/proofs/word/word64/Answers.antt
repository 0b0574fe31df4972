-- `word64` is std's number of the bytes at its place.
use Rattle.std.proofs.Common.{arith, get_or-drop}
use Rattle.std.proofs.Math.Nat.{add-zero}
use Rattle.std.specs.Int.{w64}
use Rattle.byte_numbers.specs.BytesLaws.{value_read}
use Rattle.byte_numbers.proofs.word.word64.Goals as goal

pub returns : goal.returns
returns c = let e = simp (get_or-drop, add-zero) at (value_read w64 c.args.b.now c.args.i) in omega arith
