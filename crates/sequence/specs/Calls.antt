-- The calls of a list (01, "Demand 3 and the plain list"; 02, "Coupled rooms"), and what each of them answers.
use Rattle.std.specs.Prelude.{Bool, List, [], ◌∷◌, ℕ, ℤ, length}
use Rattle.plain_list.specs.PlainStep.{PlainCall, first as plain_first, leaf as plain_leaf, root as plain_root, root_over as plain_over, link as plain_link}
use Rattle.plain_list.specs.PlainStep.{question as plain_question, alike as plain_alike, inspection as plain_inspection}

-- a call by its arguments; the parts and the count are those that the call before it left. The scratch holds anything. `root` is 01's new root,
-- which names no node; `named` is whether a new root names an opening, the label that the old root takes; `door` is the label that a linked root takes
pub data Call : Type 0 where
  first : (scratch : List ℕ) → Call
  leaf : (parent label face : ℕ) (scratch : List ℕ) → Call
  root : (named : Bool) (opening : ℕ) (scratch : List ℕ) → Call
  root_over : (x : ℕ) (named : Bool) (opening : ℕ) (scratch : List ℕ) → Call
  link : (x v door : ℕ) (scratch : List ℕ) → Call
  question : (x y : ℕ) → Call
  alike : (x y : ℕ) → Call
  inspection : (scratch : List ℕ) → Call

-- what the plain list is told of a call: of the scratch only its length
abbrev pub told : Call → PlainCall
told (first s) = plain_first (length s)
told (leaf v l a s) = plain_leaf v l a (length s)
told (root named opening s) = plain_root named opening (length s)
told (root_over x named opening s) = plain_over x named opening (length s)
told (link x v door s) = plain_link x v door (length s)
told (question x y) = plain_question x y
told (alike x y) = plain_alike x y
told (inspection s) = plain_inspection (length s)

-- what it is told of a list of calls
unfoldable pub told_all : List Call → List PlainCall
told_all [] = []
told_all (q ∷ qs) = told q ∷ told_all qs

-- a refusal's number; a new node, the rows renumbered and their head; the rows that a link's joinings renumbered, added up, and its head; the six values
-- of a question; 1 or 0 for alike; whether inspection passes
pub data Reply : Type 0 where
  refusal : ℕ → Reply
  node : (number rows head : ℕ) → Reply
  linked : (rows head : ℕ) → Reply
  answered : (nca to_x to_y : ℕ) (distance_x distance_y : ℤ) (label : ℕ) → Reply
  same : ℕ → Reply
  passes : Bool → Reply
