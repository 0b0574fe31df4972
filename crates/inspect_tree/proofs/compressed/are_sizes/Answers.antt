-- `are_sizes`: what is left of each size is 1.
use mathlib.Core.Path.{◌∙◌}
use borrow.Author.Tests.{not-false}
use Rattle.inspect_tree.specs.Columns.{sizes, uppers}
use Rattle.inspect_tree.specs.Sizes.{taken_ones}
use Rattle.inspect_tree.proofs.compressed.are_sizes.Goals as goal

pub returns : goal.returns
returns c = let f = c.args.fields.now in
    c.are_ones.ensures ∙ taken_ones (uppers f) (sizes f) c.args.n (c.take_sizes.ensures.left (not-false c.take_sizes.result c.if-not-take_sizes.false-raw))
