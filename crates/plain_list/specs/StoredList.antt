-- The stored trees as the calls build them (01: "as the rules above build that tree from the growths that the plain list serves"; 02, "Coupled rooms"):
-- beside the plain list, and from its calls and replies alone.
use Rattle.std.specs.Prelude.{List, [], ◌∷◌, ◌++◌, ℕ, eqb, length, get_or}
use Rattle.laws.specs.Test.{pick}
use Rattle.laws.specs.Sum.{count_to}
use Rattle.laws.specs.Tabulate.{tabulate}
use Rattle.tree_laws.specs.Ancestor.{none}
use Rattle.plain_list.specs.PlainList.{PlainList, count_of, parent_of, with_link}
use Rattle.plain_list.specs.Naive.{ancestors_of, is_in}
use Rattle.plain_list.specs.PlainStep.{PlainCall, first, leaf, root, root_over, link, question, alike, inspection}
use Rattle.plain_list.specs.PlainStep.{PlainReply, refusal, node, linked, answered, same, passes, root_in, plain_step, plain_after}

-- node x has the stored parent that stands at x, none for the first of a tree
abbrev pub StoredList : Type 0
StoredList = List ℕ

-- the stored parent of node x
abbrev pub stored_parent : StoredList → ℕ → ℕ
stored_parent l x = get_or l x none

-- what a new node is stored under: a leaf under its parent, a new root under the present root, a first node under none
abbrev pub stored_under : PlainList → PlainCall → ℕ
stored_under p (first scratch) = none
stored_under p (leaf parent label face scratch) = parent
stored_under p (root named opening scratch) = pick (eqb (count_of p) 0) none (root_in p 0)
stored_under p (root_over x named opening scratch) = x
stored_under p (link x v door scratch) = none
stored_under p (question x y) = none
stored_under p (alike x y) = none
stored_under p (inspection scratch) = none

-- the stored parent of node w after the tree of root x was linked under v: its nodes joined as leaves, each under its plain parent
abbrev pub relinked : PlainList → StoredList → ℕ → ℕ → ℕ → ℕ → ℕ
relinked p l x v door w = pick (eqb (root_in p w) x) (parent_of (with_link p x v door) w) (stored_parent l w)

-- the stored list after a link
abbrev pub stored_link : PlainList → StoredList → PlainCall → StoredList
stored_link p l (first scratch) = l
stored_link p l (leaf parent label face scratch) = l
stored_link p l (root named opening scratch) = l
stored_link p l (root_over x named opening scratch) = l
stored_link p l (link x v door scratch) = tabulate (relinked p l x v door) (length l)
stored_link p l (question x y) = l
stored_link p l (alike x y) = l
stored_link p l (inspection scratch) = l

-- by a call on the plain list p, and by the reply: only what is served changes it
abbrev pub stored_by : PlainList → StoredList → PlainCall → PlainReply → StoredList
stored_by p l q (refusal n) = l
stored_by p l q (node n) = l ++ (stored_under p q ∷ [])
stored_by p l q linked = stored_link p l q
stored_by p l q (answered a) = l
stored_by p l q (same b) = l
stored_by p l q passes = l

abbrev pub stored_after : ℕ → PlainList → StoredList → PlainCall → StoredList
stored_after capacity p l q = stored_by p l q (plain_step capacity p q)

-- the calls one after another
unfoldable pub stored_run : ℕ → PlainList → StoredList → List PlainCall → StoredList
stored_run capacity p l [] = l
stored_run capacity p l (q ∷ qs) = stored_run capacity (plain_after capacity p q) (stored_after capacity p l q) qs

-- how many nodes lie at or below h in the stored tree, by walking up from each
unfoldable pub stored_below : StoredList → ℕ → ℕ
stored_below l h = count_to (λ w. is_in h (ancestors_of (stored_parent l) (length l) w)) (length l)
