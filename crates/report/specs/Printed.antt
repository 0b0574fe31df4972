-- What a field prints after its ordinal (01, "Program and figures to check"): a letter and values.
use Rattle.std.specs.Prelude.{List, [], ◌∷◌, ℕ, ℤ, pos, take}
use Prim.Native.Char.{code}
use Rattle.lines.specs.Line.{line_of}
use Rattle.table.specs.Parts.{level_at}
use Rattle.sequence.specs.Calls.{Call, first, leaf, root, root_over, link, question, alike, inspection, Reply, refusal, node, linked, answered, same, passes}
use Rattle.sequence.specs.Run.{Turn}
use Rattle.report.specs.declared.reply.Shown.{Shown}

pub record Printed : Type 0 where
  pub letter : ℕ
  pub values : List ℤ

-- the letters of a question and of alike
abbrev pub question_letter : ℕ
question_letter = code "Q"

abbrev pub alike_letter : ℕ
alike_letter = code "A"

-- a refusal prints R and its number
abbrev pub printed_refusal : ℕ → Printed
printed_refusal n = record { letter = code "R"; values = pos n ∷ [] }

-- a reply to a call that prints this letter where it is served; a growth prints the new node, its level, the rows renumbered and their head
-- (02: "In the program's T and L lines the head stands last")
abbrev pub printed : ℕ → (ℕ → ℤ) → Reply → Printed
printed letter level (refusal n) = printed_refusal n
printed letter level (node n rows head) = record { letter = letter; values = pos n ∷ level n ∷ pos rows ∷ pos head ∷ [] }
printed letter level (linked rows head) = record { letter = letter; values = pos rows ∷ pos head ∷ [] }
printed letter level (answered a u v i j l) = record { letter = letter; values = pos a ∷ pos u ∷ pos v ∷ i ∷ j ∷ pos l ∷ [] }
printed letter level (same b) = record { letter = letter; values = pos b ∷ [] }
printed letter level (passes b) = record { letter = letter; values = [] }

-- the letters; no field asks for the other calls
abbrev pub unasked : ℕ
unasked = code "-"

abbrev pub letter_of : Call → ℕ
letter_of (first s) = unasked
letter_of (leaf v l a s) = code "L"
letter_of (root named opening s) = code "T"
letter_of (root_over x named opening s) = unasked
letter_of (link x v door s) = unasked
letter_of (question x y) = question_letter
letter_of (alike x y) = alike_letter
letter_of (inspection s) = unasked

-- what a call prints, by its turn; the level is that of the table after it
abbrev pub printed_by : Call → Turn → Printed
printed_by q t = printed (letter_of q) (level_at t.after.parts.levels) t.reply

-- the line of a field of this ordinal
abbrev pub printed_line : ℕ → Printed → List ℕ
printed_line ordinal p = line_of ordinal p.letter p.values

-- the letter and the first of the six values
abbrev pub printed_of : Shown → Printed
printed_of s = record { letter = s.letter; values = take s.count s.values }
