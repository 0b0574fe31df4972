-- `served`: each test in turn, or the plain answer, whose rows are sound.
use Rattle.std.proofs.Common.{sym, ◌∙◌, arith}
use Rattle.laws.specs.Test.{says_get, says_leb}
use Rattle.layer.specs.CheckedLaws.{within}
use Rattle.ancestry.specs.AnswerRows.{if_some, answer_row}
use Rattle.query.specs.NodeLaws.{is_node_lem, levelled}
use Rattle.query.specs.PlainAnswerRows.{plain_row}
use Rattle.query.specs.QuestionLaws.{served_not_x, served_not_y, served_none, served_not_level, served_found}
use Rattle.query.proofs.served.Goals as goal

pub returns-then-not-is_node : goal.returns-then-not-is_node
returns-then-not-is_node c = served_not_x _ _ _ _ (sym c.is_node.ensures ∙ c.if-not-is_node.true)

pub returns-then-not-is_node-2 : goal.returns-then-not-is_node-2
returns-then-not-is_node-2 c = let x = sym c.is_node.ensures ∙ c.if-not-is_node.false in
    served_not_y _ _ _ x _ (sym c.is_node-2.ensures ∙ c.if-not-is_node-2.true)

pub plain_answer-requires : goal.plain_answer-requires
plain_answer-requires c = let x = is_node_lem _ _ _ _ (sym c.is_node.ensures ∙ c.if-not-is_node.false) in
    let y = is_node_lem _ _ _ _ (sym c.is_node-2.ensures ∙ c.if-not-is_node-2.false) in record { left = x.row; right = y.row }

pub returns-in_default : goal.returns-in_default
returns-in_default c = let x = sym c.is_node.ensures ∙ c.if-not-is_node.false in
    let y = sym c.is_node-2.ensures ∙ c.if-not-is_node-2.false in
    served_none _ _ _ x y (sym c.in_default.is ∙ c.plain_answer.ensures)

pub has_level-requires : goal.has_level-requires
has_level-requires c = let x = is_node_lem _ _ _ _ (sym c.is_node.ensures ∙ c.if-not-is_node.false) in
    let y = is_node_lem _ _ _ _ (sym c.is_node-2.ensures ∙ c.if-not-is_node-2.false) in
    let h = c.args.t.now.held in
    let row = if_some _ c.in-Some.ensures (plain_row _ _ (answer_row _) _ _ _ record { left = x.row; right = y.row }) in
    omega (arith, h.levels, row.in_use)

pub returns-then-not-has_level : goal.returns-then-not-has_level
returns-then-not-has_level c = let x = sym c.is_node.ensures ∙ c.if-not-is_node.false in
    let y = sym c.is_node-2.ensures ∙ c.if-not-is_node-2.false in
    served_not_level _ _ _ x y c.in-Some.ensures (sym c.has_level.ensures ∙ c.if-not-has_level.true)

pub answer_of-requires : goal.answer_of-requires
answer_of-requires c = let x = is_node_lem _ _ _ _ (sym c.is_node.ensures ∙ c.if-not-is_node.false) in
    let y = is_node_lem _ _ _ _ (sym c.is_node-2.ensures ∙ c.if-not-is_node-2.false) in
    let h = c.args.t.now.held in
    let level = says_get (says_leb _ _) (sym c.has_level.ensures ∙ c.if-not-has_level.false) in
    let row = if_some _ c.in-Some.ensures (plain_row _ _ (answer_row _) _ _ _ record { left = x.row; right = y.row }) in
    record {
      in_fields = (within h.rows row.in_use).fields;
      levelled = levelled h.levels x;
      levelled_2 = levelled h.levels y;
      levelled_3 = record { within = omega (arith, h.levels, row.in_use); small = level };
    }

pub returns : goal.returns
returns c = let x = sym c.is_node.ensures ∙ c.if-not-is_node.false in
    let y = sym c.is_node-2.ensures ∙ c.if-not-is_node-2.false in
    c.answer_of.ensures ∙ served_found _ _ _ x y c.in-Some.ensures (sym c.has_level.ensures ∙ c.if-not-has_level.false)
