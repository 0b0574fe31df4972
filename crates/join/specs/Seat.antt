-- What is decided before the first store where a row joins under a row: its seat, which is the leaf, its upper row, its depth, and the head.
use Rattle.std.specs.Prelude.{Bool, true, false, ◌&&◌, ◌||◌, not, List, ℕ, eqb, Option, Some, None}
use Rattle.laws.specs.Test.{pick}
use Rattle.counts.specs.Count.{one_more, steps_of}
use Rattle.tree_laws.specs.Ancestor.{none}
use Rattle.span.specs.Numbers.{within_limit}
use Rattle.layer.specs.Layout.{parent_place, last_place, upper_place, path_place, size_place, depth_place, next_free_place}
use Rattle.layer.specs.Row.{field_at, number_at, row_of}
use Rattle.join.specs.declared.attach.Leaf.{Leaf}
use Rattle.renumber.specs.declared.Head.{Head}
use Rattle.join.specs.declared.seat.Seat.{Seat}
use Rattle.layer.specs.Checked.{is_row}
use Rattle.join.specs.Chain.{top_from, on_top}
use Rattle.join.specs.CheckWalk.{check_walk}
use Rattle.join.specs.Copied.{copies_links}

-- the leaf and its upper row -----------------------------------------------------------

-- the upper row of a leaf under p, whose parent is q: p where it is an apex, else p's own
unfoldable pub upper_under : List ℕ → List ℕ → ℕ → ℕ → ℕ → ℕ
upper_under f m n p q = pick (is_row n (row_of f m) q) (pick (eqb (field_at f q path_place) p) (field_at f p upper_place) p) none

-- a row without a parent is an apex; under a row whose parent is not in use there is no upper row, and then no head is seated
unfoldable pub upper_for : List ℕ → List ℕ → ℕ → ℕ → ℕ
upper_for f m n p = pick (eqb (field_at f p parent_place) none) p (upper_under f m n p (field_at f p parent_place))

abbrev pub leaf_under : List ℕ → ℕ → ℕ → Leaf
leaf_under f z p = record { row = z; parent = p; prev = field_at f p last_place }

-- the head -----------------------------------------------------------------------------

-- an old head, with one row more below it
unfoldable pub old_head : List ℕ → ℕ → Head
old_head f top = record { row = top; upper = field_at f top upper_place; rows = one_more (field_at f top size_place) }

-- the top of the chain, or the leaf where the chain has none
unfoldable pub head_of : List ℕ → ℕ → ℕ → ℕ → Head
head_of f top leaf upper = pick (eqb top none) (record { row = leaf; upper = upper; rows = 1 }) (old_head f top)

-- a head that is not the leaf and has no parent: the first row of a tree
unfoldable pub is_first : List ℕ → ℕ → ℕ → Bool
is_first f leaf h = pick (eqb h leaf) false (eqb (field_at f h parent_place) none)

-- the head is the first row of a tree or has an upper row, and its span lies within the limit
unfoldable pub is_seated : List ℕ → List ℕ → ℕ → Head → Bool
is_seated f m leaf h = (is_first f leaf h.row || not (eqb h.upper none)) && within_limit (number_at m h.upper next_free_place) h.rows

-- the walk below a head that is not the leaf meets as many rows as its size says
unfoldable pub is_whole : List ℕ → List ℕ → ℕ → Leaf → Head → Bool
is_whole f m n leaf h =
    eqb h.row leaf.row || check_walk (steps_of h.rows) f m n leaf h.row (Some (record { row = h.row; down = true }))

-- the seat -----------------------------------------------------------------------------

-- corrupt unless a test holds
abbrev pub seated_if : Bool → Option Seat → Option Seat
seated_if b s = pick b s None

-- of the leaf z under p whose chain has this top
unfoldable pub seat_at : List ℕ → List ℕ → List ℕ → ℕ → ℕ → ℕ → ℕ → ℕ → ℕ → Option Seat
seat_at f m a n z p upper top depth =
    seated_if (is_seated f m z (head_of f top z upper))
    (seated_if (is_whole f m n (leaf_under f z p) (head_of f top z upper))
    (seated_if (copies_links a n (head_of f top z upper).upper)
    (Some (record { leaf = leaf_under f z p; upper = upper; depth = depth; head = head_of f top z upper }))))

-- of the row z as a leaf under p
unfoldable pub seat_of : List ℕ → List ℕ → List ℕ → ℕ → ℕ → ℕ → Option Seat
seat_of f m a n z p =
    seated_if (is_row n (row_of f m) p)
    (on_top (top_from n f m n (upper_for f m n p) none)
    (λ top. seat_at f m a n z p (upper_for f m n p) top (one_more (field_at f p depth_place)))
    None)

-- by whether there is one
abbrev pub on_seat : {A : Type 0} → Option Seat → (Seat → A) → A → A
on_seat (Some s) found other = found s
on_seat None found other = other
