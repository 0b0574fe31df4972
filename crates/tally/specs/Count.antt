-- The tally after a growth and after a link, on any list of numbers, and refusal 4 (02: "a panel's entry that would fall below 0 or pass the capacity is
-- not ours").
use Rattle.std.specs.Prelude.{Bool, ◌&&◌, not, List, ℕ, ◌+◌, ◌-◌, eqb, ltb, get_or, set}
use Rattle.tally.specs.Layout.{most_place}
use Rattle.tally.specs.Most.{most_of}

-- the entry of label k may grow by one
unfoldable pub has_room : List ℕ → ℕ → ℕ → Bool
has_room w c k = ltb (get_or w k 0) c

-- a node may change its label from one to another
unfoldable pub is_movable : List ℕ → ℕ → ℕ → ℕ → Bool
is_movable w c from to = not (eqb (get_or w from 0) 0) && has_room w c to

-- the last entry found anew from the others
unfoldable pub with_most : List ℕ → List ℕ
with_most w = set w most_place (most_of w)

abbrev pub raised : List ℕ → ℕ → List ℕ
raised w k = set w k (get_or w k 0 + 1)

abbrev pub lowered : List ℕ → ℕ → List ℕ
lowered w k = set w k (get_or w k 0 - 1)

-- a node more of label k
abbrev pub counted : List ℕ → ℕ → List ℕ
counted w k = with_most (raised w k)

-- a node that had the one label has the other
abbrev pub moved : List ℕ → ℕ → ℕ → List ℕ
moved w from to = counted (lowered w from) to
