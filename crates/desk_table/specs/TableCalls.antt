-- Set-up and link of the table form, for a C host: each is that of the engine, with its answer in an out slice. A misfit of the out slice is looked for first.
use Rattle.std.specs.Prelude.{◌≡◌, List, ℕ, ◌<◌, length}
use Rattle.table.specs.declared.state.State.{State}
use Rattle.table.specs.Parts.{Parts}
use Rattle.set_up.specs.Blank.{set_up, parts_after, tally_after}
use Rattle.link.specs.Link.{Result as Link, link_by}
use Rattle.replies.specs.Reply.{misfit, on_length, made_reply, link_reply, Outcome, outcome}

unfoldable pub set_up_call : Parts → List ℕ → List ℕ → Outcome
set_up_call t w out = on_length 1 out (outcome (parts_after t w) (tally_after t w) (made_reply out (set_up t w))) (outcome t w (misfit out))

-- a link's reply, parts and tally
abbrev pub after_link : Parts → List ℕ → List ℕ → Link → Outcome
after_link t w out l = on_length 2 out (outcome l.parts l.tally (link_reply out l.outcome)) (outcome t w (misfit out))

-- of the scratch only its length counts
unfoldable pub link_call : Parts → List ℕ → List ℕ → ℕ → State → ℕ → ℕ → ℕ → Outcome
link_call t w out scratch s x v door = after_link t w out (link_by t w scratch s x v door)

-- the outcome of a link; the scratch is unchanged on a refusal, and may hold anything of its length on success
pub record LinkCall (t : Parts) (w out scratch : List ℕ) (s : State) (x v door : ℕ) (after : List ℕ) (o : Outcome) : Type 0 where
  pub outcome : o ≡ link_call t w out (length scratch) s x v door
  pub unchanged : 0 < o.replied.number → after ≡ scratch
