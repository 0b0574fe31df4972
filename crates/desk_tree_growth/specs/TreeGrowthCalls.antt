-- Byte trees of capacity 128 for a C host, the growths: each call is that of the table form on what the bytes hold, with the shortest scratch that fits.
-- Misfits of the tree's bytes and of the out slice are looked for first.
use Rattle.std.specs.Prelude.{Bool, List, ℕ}
use Rattle.table.specs.Parts.{Parts}
use Rattle.table.specs.Scratch.{least_scratch}
use Rattle.growth.specs.Outcome.{Outcome as GrowthOutcome, refusal as not_grown, node}
use Rattle.growth.specs.Growth.{Result as Growth, add_leaf, add_root}
use Rattle.bytes_tree.specs.Tree.{tree_bytes, state_in, parts_in, tally_in, Held, encoded}
use Rattle.replies.specs.Reply.{state_of, Reply, misfit, on_length}
use Rattle.byte_replies.specs.ByteReply.{grown_bytes}

-- the reply, and the tree's bytes afterwards
pub record Outcome : Type 0 where
  pub replied : Reply ℕ
  pub tree : List ℕ

abbrev pub outcome : List ℕ → Reply ℕ → Outcome
outcome b r = record { replied = r; tree = b }

-- the tree after a growth that left these parts and this tally: as it was on a refusal
abbrev pub tree_after : List ℕ → Parts → List ℕ → GrowthOutcome → List ℕ
tree_after b t w (not_grown n) = b
tree_after b t w (node c n k h) = encoded (state_of c) t w

-- and what they hold after a growth that was served
abbrev pub GrownHeld : List ℕ → Parts → List ℕ → GrowthOutcome → Type 0
GrownHeld b t w (not_grown n) = Unit {0}
GrownHeld b t w (node c n k h) = Held b (state_of c) t w

abbrev pub GrowthHeld : List ℕ → Growth → Type 0
GrowthHeld b g = GrownHeld b g.parts g.tally g.outcome

-- a growth's reply and tree
abbrev pub after_growth : List ℕ → List ℕ → Growth → Outcome
after_growth b out g = outcome (tree_after b g.parts g.tally g.outcome) (grown_bytes out g.outcome)

-- a growth, where the tree and the out slice have their lengths
abbrev pub on_lengths : List ℕ → List ℕ → Growth → Outcome
on_lengths b out g = on_length tree_bytes b (on_length 6 out (after_growth b out g) (outcome b (misfit out))) (outcome b (misfit out))

unfoldable pub leaf_tree : List ℕ → List ℕ → ℕ → ℕ → ℕ → Outcome
leaf_tree b out parent label face = on_lengths b out (add_leaf (parts_in b) (tally_in b) least_scratch (state_in b) parent label face)

unfoldable pub root_tree : List ℕ → List ℕ → Bool → ℕ → Outcome
root_tree b out named opening = on_lengths b out (add_root (parts_in b) (tally_in b) least_scratch (state_in b) named opening)
