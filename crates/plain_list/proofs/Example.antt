-- Runs of the plain list and of the stored list beside it, computed: the log of 01, "Program and figures to check", one that meets every refusal and reply of 01, one of several
-- trees that meets those of 02, "Coupled rooms", one of openings, two of faces, and one of scratches.
use Rattle.std.specs.Prelude.{◌≡◌, refl, true, false, List, [], ◌∷◌, ℕ, ◌+◌}
use Rattle.laws.specs.Tabulate.{tabulate}
use Rattle.tree_laws.specs.Ancestor.{none}
use Rattle.plain_list.specs.PlainList.{PlainList, empty_list, with_node, with_root, with_link}
use Rattle.plain_list.specs.Naive.{naive_answer, naive_same, naive_root}
use Rattle.plain_list.specs.PlainStep.{PlainCall, first, leaf, root, root_over, link, question, alike, inspection}
use Rattle.plain_list.specs.PlainStep.{PlainReply, refusal, node, linked, answered, same, passes, tree_count, plain_outcome, plain_step, plain_run}
use Rattle.plain_list.specs.StoredList.{stored_run, stored_below}
use Rattle.plain_list.specs.PlainTally.{occurrences}

-- an answer in the order of a printed line: nearest common ancestor, branches, distances, label
abbrev answer : (a b c d e l : ℕ) → PlainReply
answer a b c d e l = answered (record { nca = a; to_x = b; to_y = c; distance_x = d; distance_y = e; label = l })

-- the log's seven fields
abbrev log : List PlainCall
log = root false 0 32 ∷ leaf 0 7 0 32 ∷ leaf 1 9 0 32 ∷ question 1 2 ∷ leaf 5 7 0 32 ∷ root false 0 32 ∷ question 2 3 ∷ []

-- the seven lines' numbers and answers; at the end node 3 is the root, over 0 over 1 over 2
log_run : plain_run 128 empty_list log ≡ record {
  replies = node 0 ∷ node 1 ∷ node 2 ∷ answer 1 1 2 0 1 7 ∷ refusal 1 ∷ node 3 ∷ answer 3 0 3 3 0 0 ∷ [];
  last = record { parents = 3 ∷ 0 ∷ 1 ∷ none ∷ []; labels = 0 ∷ 7 ∷ 9 ∷ 0 ∷ []; faces = 0 ∷ 0 ∷ 0 ∷ 0 ∷ [] };
  joinings = 4;
}
unfolding plain_run plain_outcome naive_answer naive_root with_node
log_run = refl

-- in the stored tree node 3, the new root, lies under 0, the root that it went over
log_stored : stored_run 128 empty_list [] log ≡ none ∷ 0 ∷ 1 ∷ 0 ∷ []
unfolding stored_run plain_outcome naive_answer naive_root with_node
log_stored = refl

-- so all four lie at or below 0 there, and two at or below 1
log_below : stored_below (none ∷ 0 ∷ 1 ∷ 0 ∷ []) 0 + stored_below (none ∷ 0 ∷ 1 ∷ 0 ∷ []) 1 ≡ 6
unfolding stored_below
log_below = refl

-- at capacity 5: two leaves with equal labels under the root, one below each, and the refusals in their order
abbrev full : List PlainCall
full =
    inspection 5 ∷ question 0 0 ∷ leaf 0 7 0 32 ∷ root false 0 31 ∷ root false 0 32 ∷ leaf 1 0 0 31 ∷ leaf 1 0 0 32 ∷ leaf 0 0 0 32 ∷ leaf 0 10000 0 32 ∷ leaf 0 7 0 32 ∷
    leaf 0 7 0 32 ∷ leaf 1 9999 0 32 ∷ leaf 2 8 0 32 ∷ leaf 4 1 0 32 ∷ leaf 5 0 0 32 ∷ leaf 4 0 0 32 ∷ root false 0 32 ∷ root false 0 31 ∷ question 3 4 ∷ question 3 3 ∷
    question 1 3 ∷ question 5 0 ∷ alike 1 2 ∷ alike 3 4 ∷ alike 0 1 ∷ alike 0 0 ∷ alike 0 5 ∷ inspection 6 ∷ inspection 5 ∷ []

full_run : (plain_run 5 empty_list full).replies ≡
    passes ∷ refusal 1 ∷ refusal 1 ∷ refusal 3 ∷ node 0 ∷ refusal 3 ∷ refusal 1 ∷ refusal 5 ∷ refusal 5 ∷ node 1 ∷ node 2 ∷
    node 3 ∷ node 4 ∷ refusal 2 ∷ refusal 1 ∷ refusal 5 ∷ refusal 2 ∷ refusal 3 ∷ answer 0 1 2 2 2 0 ∷ answer 3 3 3 0 0 9999 ∷ answer 1 1 3 0 1 7 ∷ refusal 1 ∷
    same 1 ∷ same 0 ∷ same 0 ∷ same 1 ∷ refusal 1 ∷ refusal 3 ∷ passes ∷ []
unfolding plain_run plain_outcome naive_answer naive_same naive_root with_node
full_run = refl

-- at capacity 6: node 1 under root 0, node 3 under 2 under the new root 4; 4 is linked under 1, then 0 under the first node 5
abbrev coupled : List PlainCall
coupled =
    root_over 0 false 0 32 ∷ first 32 ∷ leaf 0 7 0 32 ∷ first 32 ∷ leaf 2 8 0 32 ∷ first 31 ∷ question 0 2 ∷ question 6 2 ∷ alike 1 3 ∷ root_over 1 false 0 32 ∷
    root_over 2 false 0 31 ∷ root_over 2 false 0 32 ∷ link 2 1 9 6 ∷ link 1 0 9 6 ∷ link 4 4 9 6 ∷ link 4 3 9 6 ∷ link 2 1 0 6 ∷ link 4 6 0 6 ∷ link 6 1 0 6 ∷
    link 4 1 9 5 ∷ question 3 1 ∷ link 4 1 9 6 ∷ question 3 1 ∷ alike 4 1 ∷ root_over 4 false 0 32 ∷ first 32 ∷ first 32 ∷ root_over 0 false 0 32 ∷
    root_over 1 false 0 32 ∷ alike 3 5 ∷ link 0 5 3 6 ∷ question 3 5 ∷ alike 5 5 ∷ []

-- the linked trees count three and five nodes
coupled_run : plain_run 6 empty_list coupled ≡ record {
  replies =
      refusal 1 ∷ node 0 ∷ node 1 ∷ node 2 ∷ node 3 ∷ refusal 3 ∷ refusal 12 ∷ refusal 1 ∷ refusal 12 ∷ refusal 10 ∷ refusal 3 ∷
      node 4 ∷ refusal 10 ∷ refusal 10 ∷ refusal 11 ∷ refusal 11 ∷ refusal 5 ∷ refusal 1 ∷ refusal 1 ∷ refusal 3 ∷ refusal 12 ∷
      linked ∷ answer 1 4 1 3 0 7 ∷ same 0 ∷ refusal 10 ∷ node 5 ∷ refusal 2 ∷ refusal 2 ∷ refusal 10 ∷ refusal 12 ∷ linked ∷ answer 5 0 5 5 0 0 ∷
      same 1 ∷ [];
  last = record { parents = 5 ∷ 0 ∷ 4 ∷ 2 ∷ 1 ∷ none ∷ []; labels = 3 ∷ 7 ∷ 0 ∷ 8 ∷ 9 ∷ 0 ∷ []; faces = 0 ∷ 0 ∷ 0 ∷ 0 ∷ 0 ∷ 0 ∷ [] };
  joinings = 14;
}
unfolding plain_run plain_outcome naive_answer naive_same naive_root tree_count with_node with_link
coupled_run = refl

-- each node of a linked tree is stored under its plain parent
coupled_stored : stored_run 6 empty_list [] coupled ≡ 5 ∷ 0 ∷ 4 ∷ 2 ∷ 1 ∷ none ∷ []
unfolding stored_run plain_outcome naive_answer naive_same naive_root tree_count with_node with_link tabulate
coupled_stored = refl

-- at capacity 5: the first node's opening is unused; new root 1 names none, 2 names 12, so that node 1 is alike with 3, a leaf of label 12, and 4 names 9,999;
-- refusal 5 comes after 3 and 1, before 10 and 2
abbrev opened : List PlainCall
opened =
    root true 0 32 ∷ root true 10000 32 ∷ root true 0 31 ∷ root true 7 32 ∷ root false 70000 32 ∷ root true 12 32 ∷ leaf 2 12 0 32 ∷ alike 1 3 ∷ alike 0 3 ∷
    root_over 4 true 0 32 ∷ root_over 0 true 0 32 ∷ root_over 0 true 9 32 ∷ root_over 0 false 0 32 ∷ root_over 2 true 9999 32 ∷ root true 0 32 ∷ root true 7 32 ∷
    root_over 4 true 0 32 ∷ root_over 4 true 7 32 ∷ []

opened_run : plain_run 5 empty_list opened ≡ record {
  replies =
      refusal 5 ∷ refusal 5 ∷ refusal 3 ∷ node 0 ∷ node 1 ∷ node 2 ∷ node 3 ∷ same 1 ∷ same 0 ∷
      refusal 1 ∷ refusal 5 ∷ refusal 10 ∷ refusal 10 ∷ node 4 ∷ refusal 5 ∷ refusal 2 ∷ refusal 5 ∷ refusal 2 ∷ [];
  last = record { parents = 1 ∷ 2 ∷ 4 ∷ 2 ∷ none ∷ []; labels = 0 ∷ 12 ∷ 9999 ∷ 12 ∷ 0 ∷ []; faces = 0 ∷ 0 ∷ 0 ∷ 0 ∷ 0 ∷ [] };
  joinings = 5;
}
unfolding plain_run plain_outcome naive_same naive_root with_node
opened_run = refl

-- at capacity 7: leaves 2 and 3 are back, 1 is front, all of label 7; 4 and 5 are front under 1 and 2; 6 is back, of another label than 2; refusal 13 comes after
-- 1 and 5, before 2
abbrev faced : List PlainCall
faced =
    first 32 ∷ leaf 0 7 0 32 ∷ leaf 0 7 1 32 ∷ leaf 0 7 1 32 ∷ alike 1 2 ∷ alike 2 3 ∷ leaf 0 7 2 31 ∷ leaf 4 7 2 32 ∷ leaf 0 0 2 32 ∷ leaf 0 7 2 32 ∷
    leaf 1 9 0 32 ∷ leaf 2 9 0 32 ∷ alike 4 5 ∷ leaf 0 8 1 32 ∷ alike 2 6 ∷ leaf 0 0 2 32 ∷ leaf 0 7 2 32 ∷ leaf 0 7 1 32 ∷ []

faced_run : plain_run 7 empty_list faced ≡ record {
  replies =
      node 0 ∷ node 1 ∷ node 2 ∷ node 3 ∷ same 0 ∷ same 1 ∷ refusal 3 ∷ refusal 1 ∷ refusal 5 ∷ refusal 13 ∷ node 4 ∷ node 5 ∷ same 0 ∷ node 6 ∷ same 0 ∷
      refusal 5 ∷ refusal 13 ∷ refusal 2 ∷ [];
  last = record { parents = none ∷ 0 ∷ 0 ∷ 0 ∷ 1 ∷ 2 ∷ 0 ∷ []; labels = 0 ∷ 7 ∷ 7 ∷ 7 ∷ 9 ∷ 9 ∷ 8 ∷ []; faces = 0 ∷ 0 ∷ 1 ∷ 1 ∷ 0 ∷ 0 ∷ 1 ∷ [] };
  joinings = 7;
}
unfolding plain_run plain_outcome naive_same naive_root with_node
faced_run = refl

-- at capacity 5: node 0 seen through an opening and node 4 through a door, both of label 7, are alike with leaf 2, which is front, and not with leaf 3, which is back
abbrev fronts : List PlainCall
fronts =
    first 32 ∷ root_over 0 true 7 32 ∷ leaf 1 7 0 32 ∷ leaf 1 7 1 32 ∷ first 32 ∷ link 4 1 7 5 ∷ alike 0 2 ∷ alike 0 3 ∷ alike 4 2 ∷ alike 4 3 ∷ []

fronts_run : (plain_run 5 empty_list fronts).replies ≡
    node 0 ∷ node 1 ∷ node 2 ∷ node 3 ∷ node 4 ∷ linked ∷ same 1 ∷ same 0 ∷ same 1 ∷ same 0 ∷ []
unfolding plain_run plain_outcome naive_same naive_root tree_count with_node with_link
fronts_run = refl

-- at capacity 5: a scratch of 5 numbers is what a link and an inspection take, and too short for growth, which is refused with 31 and served with 32 or more
abbrev lent : List PlainCall
lent =
    first 5 ∷ first 31 ∷ first 32 ∷ leaf 0 7 0 31 ∷ leaf 0 7 0 33 ∷ root false 0 31 ∷ root false 0 65536 ∷ root_over 2 false 0 31 ∷ root_over 2 false 0 128 ∷
    first 40 ∷ link 4 0 9 32 ∷ link 4 0 9 5 ∷ inspection 32 ∷ inspection 5 ∷ []

lent_run : (plain_run 5 empty_list lent).replies ≡
    refusal 3 ∷ refusal 3 ∷ node 0 ∷ refusal 3 ∷ node 1 ∷ refusal 3 ∷ node 2 ∷ refusal 3 ∷ node 3 ∷
    node 4 ∷ refusal 3 ∷ linked ∷ refusal 3 ∷ passes ∷ []
unfolding plain_run plain_outcome naive_root tree_count with_node with_link
lent_run = refl

-- at capacity 128 an inspection with growth's 32 numbers is refused
short_inspection : plain_step 128 empty_list (inspection 32) ≡ refusal 3
unfolding plain_outcome
short_inspection = refl

-- no call makes a back root; over one, an opening and a door make it front, and a new root that names none leaves it
abbrev back : PlainList
back = record { parents = none ∷ none ∷ []; labels = 0 ∷ 0 ∷ []; faces = 1 ∷ 0 ∷ [] }

back_opened : (with_root back 0 true 7).faces ≡ 0 ∷ 0 ∷ 0 ∷ []
unfolding with_node
back_opened = refl

back_left : (with_root back 0 false 7).faces ≡ 1 ∷ 0 ∷ 0 ∷ []
unfolding with_node
back_left = refl

back_linked : (with_link back 0 1 7).faces ≡ 0 ∷ 0 ∷ []
unfolding with_link
back_linked = refl

-- at capacity 4: labels 0 and 5 are carried by two nodes each; then a link takes one from 0 and gives it to 9, so that 5 is the commonest, which neither
-- of the two entries that change can tell
abbrev tied : List PlainCall
tied = first 32 ∷ first 32 ∷ leaf 0 5 0 32 ∷ leaf 0 5 0 32 ∷ link 1 2 9 4 ∷ []

tied_labels : (plain_run 4 empty_list tied).last.labels ≡ 0 ∷ 9 ∷ 5 ∷ 5 ∷ []
unfolding plain_run plain_outcome naive_root tree_count with_node with_link
tied_labels = refl

tied_counts : occurrences (0 ∷ 9 ∷ 5 ∷ 5 ∷ []) 0 ∷ occurrences (0 ∷ 9 ∷ 5 ∷ 5 ∷ []) 5 ∷ occurrences (0 ∷ 9 ∷ 5 ∷ 5 ∷ []) 9 ∷ [] ≡ 1 ∷ 2 ∷ 1 ∷ []
unfolding occurrences
tied_counts = refl
