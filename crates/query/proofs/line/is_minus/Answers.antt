-- `is_minus`: minus a depth of 16 bits fits, and words are equal where the numbers are.
use native.Mathlib.Omega.{arith}
use lib.IntN.{pos, neg_ℤ, +ℤ_idl}
use mir.Syntax.{w32}
use mir.ValLaws.{to_z_pos}
use Rattle.query.specs.Line.{is_minus}
use Rattle.table.proofs.LevelLaws.{word_eq}
use Rattle.query.specs.LevelLaws.{minus_fits}
use Rattle.query.proofs.line.is_minus.Goals as goal

pub overflow_sub-result : goal.overflow_sub-result
overflow_sub-result c = let d = c.args.depth in
    rw (to_z_pos w32 d (omega arith), +ℤ_idl (neg_ℤ (pos d))) (minus_fits d (omega arith))

pub returns : goal.returns
unfolding is_minus
returns c = let d = c.args.depth in
    rw (to_z_pos w32 d (omega arith), +ℤ_idl (neg_ℤ (pos d))) (word_eq c.args.level (neg_ℤ (pos d)) c.ranges.level (minus_fits d (omega arith)))
