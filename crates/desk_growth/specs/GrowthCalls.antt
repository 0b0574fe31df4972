-- The growths of the table form, for a C host: each is that of the engine, with its answer in an out slice. A misfit of the out slice is looked for first.
use Rattle.std.specs.Prelude.{Bool, List, ℕ}
use Rattle.table.specs.declared.state.State.{State}
use Rattle.table.specs.Parts.{Parts}
use Rattle.growth.specs.Growth.{Result as Growth, add_first, add_leaf, add_over}
use Rattle.replies.specs.Reply.{misfit, on_length, grown_reply, Outcome, outcome}

-- a growth's reply, parts and tally
unfoldable pub growth_call : Parts → List ℕ → List ℕ → Growth → Outcome
growth_call t w out g = on_length 4 out (outcome g.parts g.tally (grown_reply out g.outcome)) (outcome t w (misfit out))

-- of the scratch only its length counts, here and below
abbrev pub first_call : Parts → List ℕ → List ℕ → ℕ → State → Outcome
first_call t w out scratch s = growth_call t w out (add_first t w scratch s)

abbrev pub leaf_call : Parts → List ℕ → List ℕ → ℕ → State → ℕ → ℕ → ℕ → Outcome
leaf_call t w out scratch s parent label face = growth_call t w out (add_leaf t w scratch s parent label face)

abbrev pub root_call : Parts → List ℕ → List ℕ → ℕ → State → ℕ → Bool → ℕ → Outcome
root_call t w out scratch s x named opening = growth_call t w out (add_over t w scratch s x named opening)
