-- What a growth's scratch holds, and how long it is where it fits, tells in no table, answer or refusal (02, "Less scratch": "Tables and answers equal those made
-- with the long scratch, for each sequence of calls from set-up, the same in both but for growth's scratch, which fits in each").
use Rattle.std.specs.Prelude.{◌≡◌, Bool, List, [], ◌∷◌, ℕ, length}
use Rattle.table.specs.Parts.{Parts}
use Rattle.table.specs.Scratch.{fits_growth}
use Rattle.sequence.specs.Calls.{Call, first, leaf, root, root_over}
use Rattle.sequence.specs.Run.{start, turns, run}

-- two scratches of which both fit a growth, or neither does
abbrev pub FitAlike : List ℕ → List ℕ → Type 0
FitAlike s r = fits_growth (length s) ≡ fits_growth (length r)

-- two calls that are the same but for growth's scratch
pub data SameCall : Call → Call → Type 0 where
  same_first : {s r : List ℕ} → FitAlike s r → SameCall (first s) (first r)
  same_leaf : {v l a : ℕ} {s r : List ℕ} → FitAlike s r → SameCall (leaf v l a s) (leaf v l a r)
  same_root : {named : Bool} {opening : ℕ} {s r : List ℕ} → FitAlike s r → SameCall (root named opening s) (root named opening r)
  same_over : {x : ℕ} {named : Bool} {opening : ℕ} {s r : List ℕ} → FitAlike s r → SameCall (root_over x named opening s) (root_over x named opening r)
  same_call : (q : Call) → SameCall q q

-- two lists of such calls
pub data SameCalls : List Call → List Call → Type 0 where
  end : SameCalls [] []
  next : {q r : Call} {qs rs : List Call} → SameCall q r → SameCalls qs rs → SameCalls (q ∷ qs) (r ∷ rs)

-- The theorem

-- two lists from set-up in these parts and this tally
pub record ScratchFree (parts : Parts) (w : List ℕ) (calls others : List Call) : Type 0 where
  -- every call of the one answers, refuses and leaves in parts, tally and count what its fellow does
  pub each : turns (start parts w) calls ≡ turns (start parts w) others
  -- so the runs of which `sequence_exact` speaks are one
  pub whole : run (start parts w) calls ≡ run (start parts w) others
