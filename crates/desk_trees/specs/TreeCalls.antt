-- Byte trees of capacity 128 for a C host, set-up and the question: each call is that of the table form on what the bytes hold.
-- Misfits of the tree's bytes and of the out slice are looked for first.
use Rattle.std.specs.Prelude.{List, ℕ}
use Rattle.table.specs.Parts.{Parts}
use Rattle.set_up.specs.Outcome.{Outcome as SetUpOutcome, refusal as not_made, empty}
use Rattle.set_up.specs.Blank.{set_up, parts_after, tally_after}
use Rattle.query.specs.Question.{question}
use Rattle.bytes_tree.specs.Tree.{tree_bytes, state_in, parts_in, tally_in, Held, encoded}
use Rattle.replies.specs.Reply.{state_of, Reply, reply, misfit, on_length}
use Rattle.byte_replies.specs.ByteReply.{question_bytes}

-- set-up has no values: its reply's out slice is the tree
abbrev pub made_bytes : List ℕ → SetUpOutcome → Parts → List ℕ → Reply ℕ
made_bytes b (not_made n) t w = reply n b
made_bytes b (empty c) t w = reply 0 (encoded (state_of c) t w)

-- what bytes hold after a set-up that was served: its count, and the parts and the tally that it left
abbrev pub MadeHeld : List ℕ → SetUpOutcome → Parts → List ℕ → Type 0
MadeHeld b (not_made n) t w = Unit {0}
MadeHeld b (empty c) t w = Held b (state_of c) t w

-- set-up of these parts and this tally: what it answers and leaves, as bytes
abbrev pub set_up_bytes : List ℕ → Parts → List ℕ → Reply ℕ
set_up_bytes b t w = made_bytes b (set_up t w) (parts_after t w) (tally_after t w)

abbrev pub SetUpHeld : List ℕ → Parts → List ℕ → Type 0
SetUpHeld b t w = MadeHeld b (set_up t w) (parts_after t w) (tally_after t w)

unfoldable pub set_up_tree : List ℕ → Reply ℕ
set_up_tree b = on_length tree_bytes b (set_up_bytes b (parts_in b) (tally_in b)) (misfit b)

unfoldable pub question_tree : List ℕ → List ℕ → ℕ → ℕ → Reply ℕ
question_tree b out x y = on_length tree_bytes b (on_length 16 out (question_bytes out (question (parts_in b) (state_in b) x y)) (misfit out)) (misfit out)
