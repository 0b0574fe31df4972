-- A link (02, "Coupled rooms"): the outcome, all parts and the tally afterwards, on every table and every tally.
use Rattle.std.specs.Prelude.{◌≡◌, Result as Fallible, Ok, Err, List, ℕ, length}
use Rattle.table.specs.declared.refusal.Refusal.{Refusal}
use Rattle.table.specs.declared.state.State.{State}
use Rattle.table.specs.Parts.{Parts}
use Rattle.tally.specs.Count.{moved}
use Rattle.growth_store.specs.Store.{Stored}
use Rattle.link_plan.specs.declared.Trees.{Trees}
use Rattle.link_plan.specs.Check.{link_checked}
use Rattle.link_store.specs.JoinedTree.{joined_tree}
use Rattle.link.specs.declared.Joined.{Joined}
use Rattle.link.specs.Outcome.{Outcome, refusal, refused, linked, outcome_of}

-- the outcome, and the parts and the tally afterwards
pub record Result : Type 0 where
  pub outcome : Outcome
  pub parts : Parts
  pub tally : List ℕ

abbrev pub result : Parts → List ℕ → Outcome → Result
result p w o = record { outcome = o; parts = p; tally = w }

-- served: a node that had label 0 has that of the door
unfoldable pub served_by : List ℕ → ℕ → ℕ → Stored → Result
served_by w door head o = result o.parts (moved w 0 door) (linked o.given head)

-- by what was decided: a refusal changes nothing
unfoldable pub linked_by : Parts → List ℕ → ℕ → ℕ → ℕ → ℕ → ℕ → Fallible Trees Refusal → Result
linked_by p w c n x v door (Ok t) = served_by w door t.receiving (joined_tree p c n t.linked x v door)
linked_by p w c n x v door (Err r) = result p w (refused r)

-- the tree of x under v by a door; of the scratch only its length counts
unfoldable pub link_by : Parts → List ℕ → ℕ → State → ℕ → ℕ → ℕ → Result
link_by p w scratch s x v door = linked_by p w scratch s.count x v door (link_checked p w scratch s x v door)

-- what a call of the code leaves: the outcome, and the scratch, which a refusal leaves as it was
pub record LinkCall (p p' : Parts) (w w' scratch scratch' : List ℕ) (s : State) (x v door : ℕ) (r : Fallible Joined Refusal) : Type 0 where
  pub outcome : result p' w' (outcome_of r) ≡ link_by p w (length scratch) s x v door
  pub long : length scratch' ≡ length scratch
  pub unchanged : (n : ℕ) → outcome_of r ≡ refusal n → scratch' ≡ scratch
