-- A list of calls, one after another, by the very definitions that the contracts of the code name.
use Rattle.std.specs.Prelude.{List, [], ◌∷◌, ℕ, ◌+◌, length}
use Rattle.tree_laws.specs.Ancestor.{none}
use Rattle.table.specs.declared.state.State.{State}
use Rattle.table.specs.Parts.{Parts}
use Rattle.table.specs.Table.{Table, table_of}
use Rattle.set_up.specs.Blank.{parts_after, tally_after}
use Rattle.growth.specs.Outcome.{Outcome as GrowthOutcome, refusal as not_grown, node as new_node}
use Rattle.growth.specs.Growth.{Result as Growth, add_first, add_leaf, add_root, add_over}
use Rattle.link.specs.Outcome.{Outcome as LinkOutcome, refusal as not_linked, linked as tree_linked}
use Rattle.link.specs.Link.{Result as Link, link_by}
use Rattle.query.specs.Outcome.{Outcome as QuestionOutcome, refusal as no_answer, answered as question_answered}
use Rattle.query.specs.Question.{question as ask}
use Rattle.alike.specs.Outcome.{Outcome as AlikeOutcome, refusal as no_value, same as alike_same}
use Rattle.alike.specs.Alike.{alike as compare}
use Rattle.inspect.specs.Outcome.{Outcome as InspectionOutcome, refusal as not_inspected, passes as inspection_passes}
use Rattle.inspect.specs.Inspection.{inspection as inspect}
use Rattle.sequence.specs.Calls.{Call, first, leaf, root, root_over, link, question, alike, inspection, Reply, refusal, node, linked, answered, same, passes}

-- the lent parts and the tally, with the count
pub record Fast : Type 0 where
  pub parts : Parts
  pub tally : List ℕ
  pub state : State

-- the table that they stand for
abbrev pub table_in : Fast → Table
table_in f = table_of f.parts f.state.count

-- what set-up leaves in these parts and this tally
abbrev pub start : Parts → List ℕ → Fast
start parts tally = record { parts = parts_after parts tally; tally = tally_after parts tally; state = record { count = 0 } }

-- the reply to a call, and what stands after it
pub record Turn : Type 0 where
  pub reply : Reply
  pub after : Fast

-- the turn of a call that changes nothing
abbrev pub replies : Fast → Reply → Turn
replies f r = record { reply = r; after = f }

-- a growth: the count as it returned it, after a refusal as it went in
abbrev pub grown_reply : GrowthOutcome → Reply
grown_reply (not_grown n) = refusal n
grown_reply (new_node c n k h) = node n k h

abbrev pub state_after : State → GrowthOutcome → State
state_after s (not_grown n) = s
state_after s (new_node c n k h) = record { count = c }

abbrev pub after_growth : State → Growth → Turn
after_growth s g = record { reply = grown_reply g.outcome; after = record { parts = g.parts; tally = g.tally; state = state_after s g.outcome } }

-- a link keeps the count
abbrev pub link_reply : LinkOutcome → Reply
link_reply (not_linked n) = refusal n
link_reply (tree_linked k h) = linked k h

abbrev pub after_link : State → Link → Turn
after_link s l = record { reply = link_reply l.outcome; after = record { parts = l.parts; tally = l.tally; state = s } }

abbrev pub question_reply : QuestionOutcome → Reply
question_reply (no_answer n) = refusal n
question_reply (question_answered a u v i j l) = answered a u v i j l

abbrev pub alike_reply : AlikeOutcome → Reply
alike_reply (no_value n) = refusal n
alike_reply (alike_same b) = same b

abbrev pub inspection_reply : InspectionOutcome → Reply
inspection_reply (not_inspected n) = refusal n
inspection_reply (inspection_passes b) = passes b

-- one call
unfoldable pub step : Fast → Call → Turn
step f (first s) = after_growth f.state (add_first f.parts f.tally (length s) f.state)
step f (leaf v l a s) = after_growth f.state (add_leaf f.parts f.tally (length s) f.state v l a)
step f (root named opening s) = after_growth f.state (add_root f.parts f.tally (length s) f.state named opening)
step f (root_over x named opening s) = after_growth f.state (add_over f.parts f.tally (length s) f.state x named opening)
step f (link x v door s) = after_link f.state (link_by f.parts f.tally (length s) f.state x v door)
step f (question x y) = replies f (question_reply (ask f.parts f.state x y))
step f (alike x y) = replies f (alike_reply (compare f.parts f.state x y))
step f (inspection s) = replies f (inspection_reply (inspect f.parts f.tally (length s) f.state))

-- every turn of a list of calls, each on what the one before left
unfoldable pub turns : Fast → List Call → List Turn
turns f [] = []
turns f (q ∷ qs) = step f q ∷ turns (step f q).after qs

-- the replies to a list of calls, and what stands after the last
pub record Run : Type 0 where
  pub replies : List Reply
  pub last : Fast

-- the calls one after another, each on what the one before left
unfoldable pub run : Fast → List Call → Run
run f [] = record { replies = []; last = f }
run f (q ∷ qs) = let rest = run (step f q).after qs in record { replies = (step f q).reply ∷ rest.replies; last = rest.last }

-- the rows that a reply says were renumbered
abbrev pub rows_in : Reply → ℕ
rows_in (refusal n) = 0
rows_in (node n k h) = k
rows_in (linked k h) = k
rows_in (answered a u v i j l) = 0
rows_in (same b) = 0
rows_in (passes b) = 0

-- the head that a reply names
abbrev pub head_in : Reply → ℕ
head_in (refusal n) = none
head_in (node n k h) = h
head_in (linked k h) = h
head_in (answered a u v i j l) = none
head_in (same b) = none
head_in (passes b) = none

-- the rows of all replies of a list
unfoldable pub total_in : List Reply → ℕ
total_in [] = 0
total_in (r ∷ rs) = rows_in r + total_in rs
