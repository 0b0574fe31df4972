-- Set-up of a byte tree and the question, by whether the slices have their lengths, from what the call of the engine and the reply left.
use Rattle.std.specs.Prelude.{◌≡◌, ◌≢◌, List, ℕ, length}
use Rattle.table.specs.declared.state.State.{State}
use Rattle.table.specs.Parts.{Parts}
use Rattle.set_up.specs.Outcome.{Outcome as SetUpOutcome}
use Rattle.set_up.specs.Blank.{set_up, parts_after, tally_after}
use Rattle.query.specs.Outcome.{Outcome as QuestionOutcome}
use Rattle.query.specs.Question.{question}
use Rattle.bytes_tree.specs.Tree.{tree_bytes, state_in, parts_in, tally_in}
use Rattle.replies.specs.Reply.{reply, misfit}
use Rattle.replies.specs.ReplyLaws.{on_length_lem, off_length, tree_misfit, out_misfit, both_fit}
use Rattle.byte_replies.specs.ByteReply.{question_bytes}
use Rattle.desk_trees.specs.TreeCalls.{made_bytes, MadeHeld, set_up_bytes, SetUpHeld, set_up_tree, question_tree}

-- Set-up

module _ (b : List ℕ) {r : ℕ} where
  pub set_up_misfit : r ≡ 3 → length b ≢ tree_bytes → reply r b ≡ set_up_tree b
  unfolding set_up_tree
  set_up_misfit h e = rw h (off_length tree_bytes b _ (misfit b) e)

  pub set_up_kept : (after : List ℕ) (u t : Parts) (v w : List ℕ) (m : SetUpOutcome) → length b ≡ tree_bytes → u ≡ parts_in b → v ≡ tally_in b
      → m ≡ set_up u v → t ≡ parts_after u v → w ≡ tally_after u v → reply r after ≡ made_bytes b m t w → reply r after ≡ set_up_tree b
  unfolding set_up_tree
  set_up_kept after u t v w m e i l j k n h = rw (h, n, k, j, i, l) (on_length_lem tree_bytes b (set_up_bytes b (parts_in b) (tally_in b)) (misfit b) e)

pub set_up_held : (b after : List ℕ) (u t : Parts) (v w : List ℕ) (m : SetUpOutcome) → u ≡ parts_in b → v ≡ tally_in b
    → m ≡ set_up u v → t ≡ parts_after u v → w ≡ tally_after u v → MadeHeld after m t w → SetUpHeld after (parts_in b) (tally_in b)
set_up_held b after u t v w m i l j k n h =
    let x : m ≡ set_up (parts_in b) (tally_in b) = rw (← i, ← l) j in
    let y : t ≡ parts_after (parts_in b) (tally_in b) = rw (← i, ← l) k in
    let z : w ≡ tally_after (parts_in b) (tally_in b) = rw (← i, ← l) n in
    rw (x, y, z) at h

-- The question

module _ (b out : List ℕ) (x y : ℕ) {r : ℕ} where
  pub question_tree_misfit : r ≡ 3 → length b ≢ tree_bytes → reply r out ≡ question_tree b out x y
  unfolding question_tree
  question_tree_misfit h e = rw h (tree_misfit tree_bytes b out 16 (question_bytes out (question (parts_in b) (state_in b) x y)) (misfit out) e)

  pub question_out_misfit : r ≡ 3 → length b ≡ tree_bytes → length out ≢ 16 → reply r out ≡ question_tree b out x y
  unfolding question_tree
  question_out_misfit h e f = rw h (out_misfit tree_bytes b out 16 (question_bytes out (question (parts_in b) (state_in b) x y)) (misfit out) e f)

  pub question_answered : (after : List ℕ) (u : Parts) (s : State) (o : QuestionOutcome) → length b ≡ tree_bytes → length out ≡ 16 → u ≡ parts_in b → s ≡ state_in b
      → o ≡ question u s x y → reply r after ≡ question_bytes out o → reply r after ≡ question_tree b out x y
  unfolding question_tree
  question_answered after u s o e f i j q h = rw (h, q, i, j) (both_fit tree_bytes b out 16 (question_bytes out (question (parts_in b) (state_in b) x y)) (misfit out) e f)
