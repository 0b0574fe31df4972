-- `passes`: each pass has its answer.
use native.Mathlib.Omega.{arith}
use Rattle.table.specs.Lent.{parts_in}
use Rattle.inspect_laws.proofs.All.{answer_no, answer_yes}
use Rattle.inspect.specs.Answers.{numbered_stored, stop_count, count_most, stop_layer, stop_lines, stop_labels, stop_faces, by_tally}
use Rattle.inspect.proofs.passes.Goals as goal

pub returns-then-not-is_standing : goal.returns-then-not-is_standing
returns-then-not-is_standing c = stop_count (parts_in c.args.parts.now) c.args.tally.now c.args.state c.args.capacity (answer_no c.is_standing.ensures c.if-not-is_standing.true-raw)

pub is_numbered-requires : goal.is_numbered-requires
is_numbered-requires c =
    let few = count_most (parts_in c.args.parts.now) c.args.tally.now c.args.state c.args.capacity (answer_yes c.is_standing.ensures c.if-not-is_standing.false-raw) in
    record { n_le_row_limit = omega (arith, c.requires.0); n_in_bounds = omega (arith, c.requires.1.1) }

pub returns-then-not-is_numbered : goal.returns-then-not-is_numbered
returns-then-not-is_numbered c = stop_layer (parts_in c.args.parts.now) c.args.tally.now c.args.state c.args.capacity (answer_yes c.is_standing.ensures c.if-not-is_standing.false-raw) (answer_no c.is_numbered.ensures c.if-not-is_numbered.true-raw)

pub are_lines-requires : goal.are_lines-requires
are_lines-requires c =
    let few = count_most (parts_in c.args.parts.now) c.args.tally.now c.args.state c.args.capacity (answer_yes c.is_standing.ensures c.if-not-is_standing.false-raw) in
    record {
      stored = numbered_stored c.args.parts.now.fields.now c.args.parts.now.numbers.now c.args.parts.now.ancestors.now c.args.state.count (omega (arith, c.requires.0)) (answer_yes c.is_numbered.ensures c.if-not-is_numbered.false-raw);
      n_in_bounds = omega (arith, c.requires.1.1);
    }

pub returns-then-not-are_lines : goal.returns-then-not-are_lines
returns-then-not-are_lines c = stop_lines (parts_in c.args.parts.now) c.args.tally.now c.args.state c.args.capacity (answer_yes c.is_standing.ensures c.if-not-is_standing.false-raw) (answer_yes c.is_numbered.ensures c.if-not-is_numbered.false-raw) (answer_no c.are_lines.ensures c.if-not-are_lines.true-raw)

pub returns-then-not-are_bounded : goal.returns-then-not-are_bounded
returns-then-not-are_bounded c = stop_labels (parts_in c.args.parts.now) c.args.tally.now c.args.state c.args.capacity (answer_yes c.is_standing.ensures c.if-not-is_standing.false-raw) (answer_yes c.is_numbered.ensures c.if-not-is_numbered.false-raw) (answer_yes c.are_lines.ensures c.if-not-are_lines.false-raw) (answer_no c.are_bounded.ensures c.if-not-are_bounded.true-raw)

pub returns-then-not-are_bounded-2 : goal.returns-then-not-are_bounded-2
returns-then-not-are_bounded-2 c = stop_faces (parts_in c.args.parts.now) c.args.tally.now c.args.state c.args.capacity (answer_yes c.is_standing.ensures c.if-not-is_standing.false-raw) (answer_yes c.is_numbered.ensures c.if-not-is_numbered.false-raw) (answer_yes c.are_lines.ensures c.if-not-are_lines.false-raw) (answer_yes c.are_bounded.ensures c.if-not-are_bounded.false-raw) (answer_no c.are_bounded-2.ensures c.if-not-are_bounded-2.true-raw)

pub returns : goal.returns
returns c = by_tally (parts_in c.args.parts.now) c.args.tally.now c.args.state c.args.capacity (answer_yes c.is_standing.ensures c.if-not-is_standing.false-raw) (answer_yes c.is_numbered.ensures c.if-not-is_numbered.false-raw) (answer_yes c.are_lines.ensures c.if-not-are_lines.false-raw) (answer_yes c.are_bounded.ensures c.if-not-are_bounded.false-raw) (answer_yes c.are_bounded-2.ensures c.if-not-are_bounded-2.false-raw) c.is_tallied.ensures
