-- Bounds that keep the program's lines within their buffer.
use Rattle.std.specs.Prelude.{◌≡◌, ℕ, ◌+◌, ◌*◌, ◌≤◌}
use Rattle.turn.specs.declared.Reading.{Reading}

-- the most bytes of a log that are read
abbrev pub log_limit : ℕ
log_limit = 16384

-- before the first field of a log of n bytes, with the header in a buffer of m bytes
pub record Opens (r : Reading) (header n m : ℕ) : Type 0 where
  pub place : r.place ≡ 0
  pub ordinal : r.ordinal ≡ 1
  pub total : r.total ≡ 0
  pub line : header ≤ 96
  pub log : n ≤ log_limit
  pub buffer : 32 * n + 288 ≤ m

-- a log of n bytes, and a buffer of m bytes that holds all that it prints: a line of 96 bytes for each field of three, and three lines more
pub record Sized (n m : ℕ) : Type 0 where
  pub log : n ≤ log_limit
  pub buffer : 32 * log_limit + 288 ≤ m
