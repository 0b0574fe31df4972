-- `is_numbered`: each rule has its answer.
use native.Mathlib.Omega.{arith}
use Rattle.inspect_laws.proofs.All.{answer_no, answer_yes}
use Rattle.inspect_tree.specs.Stored.{Stored}
use Rattle.inspect_layer.specs.Answers.{set_positive, small_known, stop_small, stop_one, stop_two, stop_three, stop_four, stop_five, all_six}
use Rattle.std.proofs.Common.{rules}
use Rattle.inspect_layer.proofs.is_numbered.Goals as goal

pub returns-then-not-are_small : goal.returns-then-not-are_small
returns-then-not-are_small c = let a = c.args in
    stop_small a.fields.now a.numbers.now a.ancestors.now a.n c.requires.n_le_row_limit (answer_no c.are_small.ensures c.if-not-are_small.true-raw)

pub returns-then-not-are_trees : goal.returns-then-not-are_trees
returns-then-not-are_trees c = let a = c.args in
    stop_one a.fields.now a.numbers.now a.ancestors.now a.n (answer_no c.are_trees.ensures c.if-not-are_trees.true-raw)

pub returns-then-not-is_compressed : goal.returns-then-not-is_compressed
returns-then-not-is_compressed c = let a = c.args in
    stop_two a.fields.now a.numbers.now a.ancestors.now a.n (answer_yes c.are_trees.ensures c.if-not-are_trees.false-raw) (answer_no c.is_compressed.ensures c.if-not-is_compressed.true-raw)

pub returns-then-not-are_set_sizes : goal.returns-then-not-are_set_sizes
returns-then-not-are_set_sizes c = let a = c.args in
    stop_three a.fields.now a.numbers.now a.ancestors.now a.n (answer_yes c.are_trees.ensures c.if-not-are_trees.false-raw) (answer_yes c.is_compressed.ensures c.if-not-is_compressed.false-raw) (answer_no c.are_set_sizes.ensures c.if-not-are_set_sizes.true-raw)

pub returns-then-not-are_small_children : goal.returns-then-not-are_small_children
returns-then-not-are_small_children c = let a = c.args in
    stop_four a.fields.now a.numbers.now a.ancestors.now a.n (answer_yes c.are_trees.ensures c.if-not-are_trees.false-raw) (answer_yes c.is_compressed.ensures c.if-not-is_compressed.false-raw) (answer_yes c.are_set_sizes.ensures c.if-not-are_set_sizes.false-raw) (answer_no c.are_small_children.ensures c.if-not-are_small_children.true-raw)

pub are_nested-requires : goal.are_nested-requires
are_nested-requires c =
    let a = c.args in
    let known : Stored a.fields.now a.n = record { small = omega (arith, c.requires.n_le_row_limit); trees = answer_yes c.are_trees.ensures c.if-not-are_trees.false-raw } in
    record {
      n_in_bounds = search rules;
      positive = set_positive a.fields.now a.n (answer_yes c.are_set_sizes.ensures c.if-not-are_set_sizes.false-raw);
      small = small_known a.fields.now a.numbers.now a.n known (answer_yes c.is_compressed.ensures c.if-not-is_compressed.false-raw) (answer_yes c.are_small.ensures c.if-not-are_small.false-raw);
    }

pub returns-then-not-are_nested : goal.returns-then-not-are_nested
returns-then-not-are_nested c = let a = c.args in
    stop_five a.fields.now a.numbers.now a.ancestors.now a.n (answer_yes c.are_trees.ensures c.if-not-are_trees.false-raw) (answer_yes c.is_compressed.ensures c.if-not-is_compressed.false-raw) (answer_yes c.are_set_sizes.ensures c.if-not-are_set_sizes.false-raw) (answer_yes c.are_small_children.ensures c.if-not-are_small_children.false-raw) (answer_no c.are_nested.ensures c.if-not-are_nested.true-raw)

pub returns : goal.returns
returns c = let a = c.args in
    all_six a.fields.now a.numbers.now a.ancestors.now a.n (answer_yes c.are_trees.ensures c.if-not-are_trees.false-raw) (answer_yes c.is_compressed.ensures c.if-not-is_compressed.false-raw) (answer_yes c.are_set_sizes.ensures c.if-not-are_set_sizes.false-raw) (answer_yes c.are_small_children.ensures c.if-not-are_small_children.false-raw) (answer_yes c.are_nested.ensures c.if-not-are_nested.false-raw) c.are_entries.ensures
