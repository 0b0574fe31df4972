-- The plain list's step (01, "Demand 3 and the plain list"; 02, "Coupled rooms"): a call's arguments in, a reply and the list after it out.
use Rattle.std.specs.Prelude.{Bool, true, false, ◌&&◌, not, List, [], ◌∷◌, ℕ, ◌+◌, leb, ltb, eqb}
use Rattle.laws.specs.Test.{pick, bit}
use Rattle.laws.specs.Sum.{count_to}
use Rattle.tree_laws.specs.Ancestor.{none}
use Rattle.tree_laws.specs.Answer.{Answer}
use Rattle.plain_list.specs.PlainList.{PlainList, count_of, parent_of, label_of, face_of, with_first, with_leaf, with_root, with_link}
use Rattle.plain_list.specs.Naive.{naive_answer, naive_same, naive_root}

-- a call by its arguments, without the lent tables and the count; of the scratch only its length. `root` is 01's new root, which names no node;
-- `named` says whether a new root names an opening
pub data PlainCall : Type 0 where
  first : (scratch : ℕ) → PlainCall
  leaf : (parent label face scratch : ℕ) → PlainCall
  root : (named : Bool) (opening scratch : ℕ) → PlainCall
  root_over : (x : ℕ) (named : Bool) (opening scratch : ℕ) → PlainCall
  link : (x v door scratch : ℕ) → PlainCall
  question : (x y : ℕ) → PlainCall
  alike : (x y : ℕ) → PlainCall
  inspection : (scratch : ℕ) → PlainCall

-- a refusal's number, a new node's number, that a tree was linked, the answer to a question, 1 or 0 for alike, or inspection's yes
pub data PlainReply : Type 0 where
  refusal : ℕ → PlainReply
  node : ℕ → PlainReply
  linked : PlainReply
  answered : Answer → PlainReply
  same : ℕ → PlainReply
  passes : PlainReply

-- the reply to a call, the list after it, and how many nodes it joined to a tree
pub record PlainOutcome : Type 0 where
  pub reply : PlainReply
  pub after : PlainList
  pub joined : ℕ

-- a reply that changes nothing, and refusal n among them
abbrev pub replies : PlainReply → PlainList → PlainOutcome
replies r p = record { reply = r; after = p; joined = 0 }

abbrev pub refusal_of : ℕ → PlainList → PlainOutcome
refusal_of n p = replies (refusal n) p

-- refusal n unless the test passes
abbrev pub unless : Bool → ℕ → PlainList → PlainOutcome → PlainOutcome
unless true n p o = o
unless false n p o = refusal_of n p

-- one node more: the list is then q
abbrev pub grows : PlainList → PlainList → PlainOutcome
grows p q = record { reply = node (count_of p); after = q; joined = 1 }

-- both nodes are below the count
abbrev pub both_known : PlainList → ℕ → ℕ → Bool
both_known p x y = ltb x (count_of p) && ltb y (count_of p)

-- a label goes from 1 to 9,999
abbrev pub largest_label : ℕ
largest_label = 9999

abbrev pub is_label : ℕ → Bool
is_label l = leb 1 l && leb l largest_label

-- an opening that is named has a label; where none is, the number is not looked at (02: "no being a length-0 top; refusal 5 applies where it does")
abbrev pub is_opening : Bool → ℕ → Bool
is_opening true o = is_label o
is_opening false o = true

-- a face is 0, front, or 1, back
abbrev pub largest_face : ℕ
largest_face = 1

abbrev pub is_face : ℕ → Bool
is_face f = leb f largest_face

-- growth takes a scratch of 32 numbers or more, at any capacity (02: "only a shorter one is misfit")
abbrev pub least_scratch : ℕ
least_scratch = 32

abbrev pub fits_growth : ℕ → Bool
fits_growth scratch = leb least_scratch scratch

-- a link and an inspection take one number to a row of the capacity, no more and no less (02: "Other calls, hang too, keep theirs")
abbrev pub fits_table : ℕ → ℕ → Bool
fits_table capacity scratch = eqb scratch capacity

-- there is room for one node more
abbrev pub has_room : ℕ → PlainList → Bool
has_room capacity p = not (eqb (count_of p) capacity)

-- the root of the tree of x
abbrev pub root_in : PlainList → ℕ → ℕ
root_in p x = naive_root (parent_of p) (count_of p) x

-- x has no parent
abbrev pub is_root : PlainList → ℕ → Bool
is_root p x = eqb (parent_of p x) none

-- how many nodes the tree of root x has
unfoldable pub tree_count : PlainList → ℕ → ℕ
tree_count p x = count_to (λ w. eqb (root_in p w) x) (count_of p)

-- a link of known nodes by a good label: 10 where x is no root, 11 where v stands in its tree, else each of its nodes joins
abbrev pub links : PlainList → ℕ → ℕ → ℕ → PlainOutcome
links p x v door =
    unless (is_root p x) 10 p (unless (not (eqb (root_in p v) x)) 11 p
    (record { reply = linked; after = with_link p x v door; joined = tree_count p x }))

-- what is asked of two nodes: 1 where one is not known, 12 where they stand in different trees
abbrev pub asked : PlainList → ℕ → ℕ → PlainReply → PlainOutcome
asked p x y r =
    unless (both_known p x y) 1 p
    (unless (eqb (root_in p x) (root_in p y)) 12 p
    (replies r p))

-- x and y are alike: equal lists of labels and equal lists of faces (02: "Alike now needs equal panels and equal faces")
abbrev pub naive_alike : PlainList → ℕ → ℕ → Bool
naive_alike p x y = naive_same (parent_of p) (label_of p) (count_of p) x y && naive_same (parent_of p) (face_of p) (count_of p) x y

-- a call on the list p, at this capacity: the first refusal that applies, or else the service
unfoldable pub plain_outcome : ℕ → PlainList → PlainCall → PlainOutcome
plain_outcome capacity p (first scratch) =
    unless (fits_growth scratch) 3 p
    (unless (has_room capacity p) 2 p
    (grows p (with_first p)))
plain_outcome capacity p (leaf parent label face scratch) =
    unless (fits_growth scratch) 3 p
    (unless (ltb parent (count_of p)) 1 p
    (unless (is_label label) 5 p
    (unless (is_face face) 13 p
    (unless (has_room capacity p) 2 p
    (grows p (with_leaf p parent label face))))))
-- a first node where there is none (02: "On an empty tree a named opening is checked and otherwise unused"), else a new root over that of the tree of node 0
plain_outcome capacity p (root named opening scratch) =
    unless (fits_growth scratch) 3 p
    (unless (is_opening named opening) 5 p
    (unless (has_room capacity p) 2 p
    (pick (eqb (count_of p) 0) (grows p (with_first p)) (grows p (with_root p (root_in p 0) named opening)))))
plain_outcome capacity p (root_over x named opening scratch) =
    unless (fits_growth scratch) 3 p
    (unless (ltb x (count_of p)) 1 p
    (unless (is_opening named opening) 5 p
    (unless (is_root p x) 10 p
    (unless (has_room capacity p) 2 p
    (grows p (with_root p x named opening))))))
plain_outcome capacity p (link x v door scratch) =
    unless (fits_table capacity scratch) 3 p
    (unless (both_known p x v) 1 p
    (unless (is_label door) 5 p
    (links p x v door)))
plain_outcome capacity p (question x y) = asked p x y (answered (naive_answer (parent_of p) (label_of p) (count_of p) x y))
plain_outcome capacity p (alike x y) = asked p x y (same (bit (naive_alike p x y)))
plain_outcome capacity p (inspection scratch) =
    unless (fits_table capacity scratch) 3 p
    (replies passes p)

-- the reply to a call
abbrev pub plain_step : ℕ → PlainList → PlainCall → PlainReply
plain_step capacity p q = (plain_outcome capacity p q).reply

-- the list after a call
abbrev pub plain_after : ℕ → PlainList → PlainCall → PlainList
plain_after capacity p q = (plain_outcome capacity p q).after

-- the replies to a list of calls, the plain list after the last, and how many nodes joined a tree, each as often as it did
pub record PlainRun : Type 0 where
  pub replies : List PlainReply
  pub last : PlainList
  pub joinings : ℕ

-- the calls one after another, each on the list that the one before left
unfoldable pub plain_run : ℕ → PlainList → List PlainCall → PlainRun
plain_run capacity p [] = record { replies = []; last = p; joinings = 0 }
plain_run capacity p (q ∷ qs) =
    let rest = plain_run capacity (plain_after capacity p q) qs in
    record {
      replies = plain_step capacity p q ∷ rest.replies;
      last = rest.last;
      joinings = (plain_outcome capacity p q).joined + rest.joinings;
    }
