-- The log reader for a C host: a field as numbers in an out slice. A misfit of the out slice is looked for first.
use Rattle.std.specs.Prelude.{List, [], ◌∷◌, ℕ, get_or}
use Rattle.log_fields.specs.Outcome.{Outcome, end, refusal, field}
use Rattle.log_fields.specs.Field.{field_at}
use Rattle.replies.specs.Reply.{Reply, reply, misfit, on_length}

-- the kind, 0 at the log's end, and three values, 0 where the field has fewer
abbrev pub field_reply : List ℕ → Outcome → Reply ℕ
field_reply out end = reply 0 (0 ∷ 0 ∷ 0 ∷ 0 ∷ [])
field_reply out (refusal n next) = reply n out
field_reply out (field kind values next) = reply 0 (kind ∷ get_or values 0 0 ∷ get_or values 1 0 ∷ get_or values 2 0 ∷ [])

unfoldable pub field_call : List ℕ → ℕ → List ℕ → Reply ℕ
field_call log place out = on_length 4 out (field_reply out (field_at log place)) (misfit out)
