-- 01's cases marked *, as one table: the calls, and what they must give; two of the cases show the order of starts.
use Rattle.std.specs.Prelude.{false, List, [], ◌∷◌, ◌++◌, ℕ, ◌*◌, ℤ, pos, negsuc, replicate, take}
use Rattle.layer.specs.Layout.{field_stride, number_stride, entry_stride}
use Rattle.table.specs.Parts.{Parts, parts_of}
use Rattle.table.specs.Scratch.{least_scratch}
use Rattle.tally.specs.Layout.{tally_length}
use Rattle.layer.specs.Layer.{start}
use Rattle.layer.specs.Spans.{p, q, end}
use Rattle.sequence.specs.Calls.{Call, leaf, root, question, Reply, refusal, node, answered}
use Rattle.sequence.specs.Run.{Run, Fast, table_in, run, total_in, start as blank_table}

-- the program's capacity
abbrev pub capacity : ℕ
capacity = 128

abbrev pub lent : Parts
lent =
    parts_of (replicate (capacity * field_stride) 0) (replicate (capacity * number_stride) 0) (replicate capacity (pos 0))
    (replicate (capacity * entry_stride) 0)

abbrev pub lent_tally : List ℕ
lent_tally = replicate tally_length 0

abbrev pub scratch : List ℕ
scratch = replicate least_scratch 0

-- ---- what a case looks at

-- a number of a row of the table
pub data Number : Type 0 where
  start_of : ℕ → Number
  p_of : ℕ → Number
  q_of : ℕ → Number
  end_of : ℕ → Number

abbrev pub read : Fast → Number → ℕ
read f (start_of x) = start (table_in f).layer x
read f (p_of x) = p (table_in f).layer x
read f (q_of x) = q (table_in f).layer x
read f (end_of x) = end (table_in f).layer x

abbrev pub read_all : Fast → List Number → List ℕ
read_all f [] = []
read_all f (n ∷ ns) = read f n ∷ read_all f ns

-- the replies, the rows renumbered by all calls, and after the last call the levels of all nodes and the numbers that are asked for
pub record Seen : Type 0 where
  pub replies : List Reply
  pub total : ℕ
  pub levels : List ℤ
  pub numbers : List ℕ

-- calls on an empty table, numbers to look at, and what must be seen
pub record Case : Type 0 where
  pub calls : List Call
  pub asked : List Number
  pub due : Seen

abbrev pub seen_in : List Number → Run → Seen
seen_in ns r =
    record {
      replies = r.replies;
      total = total_in r.replies;
      levels = take r.last.state.count r.last.parts.levels;
      numbers = read_all r.last ns;
    }

-- what the calls give, by the definitions that the contracts of the code name
abbrev pub seen : Case → Seen
seen c = seen_in c.asked (run (blank_table lent lent_tally) c.calls)

-- ---- the table

-- fields 1 to 3 of the log, and all seven
abbrev pub three_fields : List Call
three_fields = root false 0 scratch ∷ leaf 0 7 0 scratch ∷ leaf 1 9 0 scratch ∷ []

abbrev pub seven_fields : List Call
seven_fields = three_fields ++ question 1 2 ∷ leaf 5 7 0 scratch ∷ root false 0 scratch ∷ question 2 3 ∷ []

abbrev pub three_replies : List Reply
three_replies = node 0 1 0 ∷ node 1 2 0 ∷ node 2 3 0 ∷ []

abbrev pub seven_replies : List Reply
seven_replies = three_replies ++ answered 1 1 2 (pos 0) (pos 1) 7 ∷ refusal 1 ∷ node 3 4 0 ∷ answered 3 0 3 (pos 3) (pos 0) 0 ∷ []

-- a root and leaves below it
abbrev pub star : List Call
star = root false 0 scratch ∷ leaf 0 1 0 scratch ∷ leaf 0 2 0 scratch ∷ leaf 0 3 0 scratch ∷ leaf 0 4 0 scratch ∷ leaf 0 5 0 scratch ∷ leaf 0 6 0 scratch ∷ []

-- a root 0 and its child 1, which is heavy by its leaves 2 and 3; then 4, a light child of the root
abbrev pub light_after_heavy : List Call
light_after_heavy = root false 0 scratch ∷ leaf 0 1 0 scratch ∷ leaf 1 2 0 scratch ∷ leaf 1 3 0 scratch ∷ leaf 0 4 0 scratch ∷ []

unfoldable pub cases : List Case
cases =
    -- the nine lines' seven calls
    record {
      calls = seven_fields;
      asked = [];
      due = record { replies = seven_replies; total = 10; levels = pos 0 ∷ pos 1 ∷ pos 2 ∷ negsuc 0 ∷ []; numbers = [] };
    }
    -- the numbers of three nodes after field 3
    ∷ record {
      calls = three_fields;
      asked = p_of 0 ∷ q_of 0 ∷ end_of 0 ∷ p_of 1 ∷ p_of 2 ∷ [];
      due = record { replies = three_replies; total = 6; levels = pos 0 ∷ pos 1 ∷ pos 2 ∷ []; numbers = 81 ∷ 324 ∷ 405 ∷ 82 ∷ 87 ∷ [] };
    }
    -- a root with five leaves, which start in order of arrival, then a sixth, which renumbers 1 row, its own, and starts at 1,321
    ∷ record {
      calls = star;
      asked = start_of 1 ∷ start_of 2 ∷ start_of 3 ∷ start_of 4 ∷ start_of 5 ∷ start_of 6 ∷ [];
      due = record {
        replies = node 0 1 0 ∷ node 1 2 0 ∷ node 2 3 0 ∷ node 3 4 0 ∷ node 4 5 0 ∷ node 5 6 0 ∷ node 6 1 6 ∷ [];
        total = 22;
        levels = pos 0 ∷ pos 1 ∷ pos 1 ∷ pos 1 ∷ pos 1 ∷ pos 1 ∷ pos 1 ∷ [];
        numbers = 1296 ∷ 1301 ∷ 1306 ∷ 1311 ∷ 1316 ∷ 1321 ∷ [];
      };
    }
    -- every node of the seven calls with itself
    ∷ record {
      calls = seven_fields ++ question 0 0 ∷ question 1 1 ∷ question 2 2 ∷ question 3 3 ∷ [];
      asked = [];
      due = record {
        replies = seven_replies
            ++ answered 0 0 0 (pos 0) (pos 0) 0
            ∷ answered 1 1 1 (pos 0) (pos 0) 7
            ∷ answered 2 2 2 (pos 0) (pos 0) 9
            ∷ answered 3 3 3 (pos 0) (pos 0) 0
            ∷ [];
        total = 10;
        levels = pos 0 ∷ pos 1 ∷ pos 2 ∷ negsuc 0 ∷ [];
        numbers = [];
      };
    }
    -- a light child that arrives after the heavy one starts before it: 4, then 1 with its light children 2 and 3
    ∷ record {
      calls = light_after_heavy;
      asked = start_of 4 ∷ start_of 1 ∷ start_of 2 ∷ start_of 3 ∷ [];
      due = record {
        replies = node 0 1 0 ∷ node 1 2 0 ∷ node 2 3 0 ∷ node 3 4 0 ∷ node 4 5 0 ∷ [];
        total = 15;
        levels = pos 0 ∷ pos 1 ∷ pos 2 ∷ pos 2 ∷ pos 1 ∷ [];
        numbers = 625 ∷ 630 ∷ 635 ∷ 640 ∷ [];
      };
    }
    ∷ []
