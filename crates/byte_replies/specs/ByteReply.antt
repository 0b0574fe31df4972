-- The replies of byte trees: as `Reply` has them, with the values as bytes, low byte first, distances in 4 bytes and all others in 2.
use Rattle.std.specs.Prelude.{List, ◌++◌, ℕ}
use Rattle.growth.specs.Outcome.{Outcome as GrowthOutcome, refusal as not_grown, node}
use Rattle.query.specs.Outcome.{Outcome, refusal, answered}
use Rattle.byte_numbers.specs.Bytes.{bytes}
use Rattle.byte_numbers.specs.Sign.{unsigned}
use Rattle.replies.specs.Reply.{Reply, reply}

-- the new node, the rows renumbered, and their head; the count stands in the tree
abbrev pub grown_bytes : List ℕ → GrowthOutcome → Reply ℕ
grown_bytes out (not_grown n) = reply n out
grown_bytes out (node c n k h) = reply 0 (bytes 2 n ++ (bytes 2 k ++ bytes 2 h))

-- the nearest common ancestor, the branches towards x and y, their distances, and the label
abbrev pub question_bytes : List ℕ → Outcome → Reply ℕ
question_bytes out (refusal n) = reply n out
question_bytes out (answered a u v i j l) = reply 0 (bytes 2 a ++ (bytes 2 u ++ (bytes 2 v ++ (bytes 4 (unsigned i) ++ (bytes 4 (unsigned j) ++ bytes 2 l)))))
