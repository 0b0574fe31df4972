-- A field's body as a part of the log itself (document 01, "The log").
use Rattle.std.specs.Prelude.{◌≡◌, List, ℕ, ◌+◌}
use Rattle.std.specs.Borrow.{Bor}
use Rattle.laws.specs.Test.{pick}
use Rattle.log_fields.specs.Field.{cut_short, body_at}

-- where the body of a field starts; the log's first place, for the empty body, where the field is cut short
unfoldable pub body_start : List ℕ → ℕ → ℕ
body_start log place = pick (cut_short log place) 0 (place + 3)

-- the slice `part` is the body of the field at a place of the slice `log`: it has the body's bytes, and lies where they lie
pub record IsBody (log : Bor (List ℕ)) (place : ℕ) (part : Bor (List ℕ)) : Type 0 where
  pub bytes : part.now ≡ body_at log.now place
  pub lies : part.ref_ptr ≡ (log.ref_ptr.0, log.ref_ptr.1 + body_start log.now place)
