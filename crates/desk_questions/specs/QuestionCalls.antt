-- The calls of the table form that only read a table, for a C host: each is that of the engine, with its answer in an out slice.
-- A misfit of the out slice is looked for first.
use Rattle.std.specs.Prelude.{◌≡◌, List, ℕ, ◌<◌, ℤ, length}
use Rattle.table.specs.declared.state.State.{State}
use Rattle.table.specs.Parts.{Parts}
use Rattle.query.specs.Question.{question}
use Rattle.alike.specs.Alike.{alike}
use Rattle.inspect.specs.Inspection.{inspection}
use Rattle.replies.specs.Reply.{Reply, misfit, on_length, question_reply, alike_reply, inspection_reply}

unfoldable pub question_call : Parts → List ℤ → State → ℕ → ℕ → Reply ℤ
question_call t out s x y = on_length 6 out (question_reply out (question t s x y)) (misfit out)

unfoldable pub alike_call : Parts → List ℕ → State → ℕ → ℕ → Reply ℕ
alike_call t out s x y = on_length 1 out (alike_reply out (alike t s x y)) (misfit out)

-- of the scratch only its length counts
unfoldable pub inspection_call : Parts → List ℕ → List ℕ → ℕ → State → Reply ℕ
inspection_call t w out scratch s = on_length 1 out (inspection_reply out (inspection t w scratch s)) (misfit out)

-- the reply of an inspection; the scratch is unchanged on a refusal, and may hold anything of its length on success
pub record InspectionCall (t : Parts) (w out scratch : List ℕ) (s : State) (after : List ℕ) (r : Reply ℕ) : Type 0 where
  pub replied : r ≡ inspection_call t w out (length scratch) s
  pub unchanged : 0 < r.number → after ≡ scratch
