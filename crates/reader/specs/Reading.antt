-- What a reader is at the start of a log, and once it has passed a field.
use Rattle.std.specs.Prelude.{List, ℕ}
use Rattle.std.specs.Borrow.{Bor}
use Rattle.log_fields.specs.Field.{next_at}
use Rattle.reader.specs.declared.Reader.{Reader}

-- a reader that has read nothing yet
abbrev pub opened : Bor (List ℕ) → Reader
opened log = record { log = log; at = 0 }

-- the same log, read up to the place past the field; that place is the same one where the log ends or is cut short
abbrev pub passed : Reader → Reader
passed r = record { log = r.log; at = next_at r.log.now r.at }
