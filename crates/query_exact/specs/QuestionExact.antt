-- Demand 2: on a table that passes inspection a question on two nodes below the count that have a common ancestor is served, and its outcome is exactly
-- the nearest one, both branches, both distances and the label, by the naive definition on the plain trees that the table records. On nodes of
-- different trees it is refusal 12.
use Rattle.std.specs.Prelude.{◌≡◌, ℕ, pos}
use Rattle.table.specs.Table.{Table}
use Rattle.table.specs.PlainTree.{plain}
use Rattle.tree_laws.specs.Answer.{Answer, Answers}
use Rattle.query.specs.Outcome.{Outcome, answered}

-- the outcome that gives the answer r: its distances are whole numbers, not negative
abbrev pub given : Answer → Outcome
given r = answered r.nca r.to_x r.to_y (pos r.distance_x) (pos r.distance_y) r.label

-- the outcome o gives the answer for x and y on the plain trees and the labels of the table t
pub record ExactOutcome (t : Table) (x y : ℕ) (o : Outcome) : Type 0 where
  pub value : Answer
  pub answers : Answers (plain t) t.label x y value
  pub outcome : o ≡ given value
