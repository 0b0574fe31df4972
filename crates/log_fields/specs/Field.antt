-- The field at a place of a log (document 01, "The log" and refusals 6 to 9): one byte of tag, two of length, high byte first, and a body.
use Rattle.std.specs.Prelude.{List, [], ◌∷◌, Bool, true, not, ◌||◌, ◌&&◌, ℕ, ◌+◌, ◌-◌, length, get_or, take, drop, eqb, ltb}
use Rattle.laws.specs.Test.{pick}
use Rattle.log_fields.specs.Bytes.{number_at, all_zero}
use Rattle.log_fields.specs.Outcome.{Outcome, end, refusal, field}

-- ---- by tag

-- the tags: 1 leaf, 2 root, 3 question, 4 alike, 5 leaf with a face, 9 filler
abbrev pub listed : ℕ → Bool
listed tag = eqb tag 1 || eqb tag 2 || eqb tag 3 || eqb tag 4 || eqb tag 5 || eqb tag 9

-- the kind of a field: its tag, but a leaf is a leaf with or without a face
abbrev pub kind_of : ℕ → ℕ
kind_of tag = pick (eqb tag 5) 1 tag

-- the lengths that a listed tag allows: an opening or nothing for a root (02: "The log's top field then has length 2; length 0 still
-- serves for the first image of a tree, and for older logs"), five for a leaf with a face (02: "length 5: parent, panel, face"), any for
-- filler, else two numbers
abbrev pub fits : ℕ → ℕ → Bool
fits tag n = pick (eqb tag 2) (eqb n 0 || eqb n 2) (pick (eqb tag 5) (eqb n 5) (pick (eqb tag 9) true (eqb n 4)))

-- what a leaf tells: its parent, label and face
abbrev pub leaf_values : List ℕ → ℕ → List ℕ
leaf_values body face = number_at body 0 ∷ number_at body 2 ∷ face ∷ []

-- what a root tells: whether it names an opening, 1 or 0, and the opening, 0 where it names none
abbrev pub root_values : List ℕ → List ℕ
root_values body = pick (eqb (length body) 0) (0 ∷ 0 ∷ []) (1 ∷ number_at body 0 ∷ [])

-- what a body tells: a leaf's face is 0 by tag 1 (02: "tag 1 means front") and the last byte by tag 5; nothing for filler, else two numbers
abbrev pub values : ℕ → List ℕ → List ℕ
values tag body =
    pick (eqb tag 1) (leaf_values body 0)
    (pick (eqb tag 2) (root_values body)
    (pick (eqb tag 5) (leaf_values body (get_or body 4 0))
    (pick (eqb tag 9) [] (number_at body 0 ∷ number_at body 2 ∷ []))))

-- a whole field, of this tag and body, with the next field at `next`: refusals 6, 7 and 9 in this order, or its kind and values
unfoldable pub whole_field : ℕ → List ℕ → ℕ → Outcome
whole_field tag body next =
    pick (not (listed tag)) (refusal 6 next)
    (pick (not (fits tag (length body))) (refusal 7 next)
    (pick (eqb tag 9 && not (all_zero body)) (refusal 9 next)
    (field (kind_of tag) (values tag body) next)))

-- ---- at a place

-- how many bytes are left: none at a place past the end
abbrev pub left : List ℕ → ℕ → ℕ
left log place = length log - place

-- the length that stands after the tag
abbrev pub length_at : List ℕ → ℕ → ℕ
length_at log place = number_at log (place + 1)

-- refusal 8: less than a tag and a length is left, or less than a body of that length after them
unfoldable pub cut_short : List ℕ → ℕ → Bool
cut_short log place = ltb (left log place) 3 || ltb (left log place - 3) (length_at log place)

-- the place past a field that is not cut short; the same place otherwise
unfoldable pub next_at : List ℕ → ℕ → ℕ
next_at log place = pick (cut_short log place) place (place + 3 + length_at log place)

-- the body of a field that is not cut short; nothing otherwise
unfoldable pub body_at : List ℕ → ℕ → List ℕ
body_at log place = pick (cut_short log place) [] (take (length_at log place) (drop (place + 3) log))

-- the field: the end where no byte is left, then refusal 8, then as a whole field
unfoldable pub field_at : List ℕ → ℕ → Outcome
field_at log place =
    pick (eqb (left log place) 0) end
    (pick (cut_short log place) (refusal 8 place)
    (whole_field (get_or log place 0) (body_at log place) (next_at log place)))
