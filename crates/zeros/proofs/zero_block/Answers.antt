-- `zero_block`: the first word that is not zero decides, or the last.
use Rattle.std.proofs.Common.{sym, ◌∙◌, rules}
use Rattle.zeros.specs.ZeroLaws.{block_first, block_second, block_third, block_fourth}
use Rattle.zeros.proofs.zero_block.Goals as goal

pub returns-then-not-zero_word : goal.returns-then-not-zero_word
returns-then-not-zero_word c = let a = c.args in sym (block_first a.bytes.now a.i (search rules))

pub returns-then-not-zero_word-2 : goal.returns-then-not-zero_word-2
returns-then-not-zero_word-2 c = let a = c.args in sym (block_second a.bytes.now a.i (search rules) (search rules))

pub returns-then-not-zero_word-3 : goal.returns-then-not-zero_word-3
returns-then-not-zero_word-3 c = let a = c.args in sym (block_third a.bytes.now a.i (search rules) (search rules) (search rules))

pub returns : goal.returns
returns c = let a = c.args in c.zero_word-4.ensures ∙ sym (block_fourth a.bytes.now a.i (search rules) (search rules) (search rules))
