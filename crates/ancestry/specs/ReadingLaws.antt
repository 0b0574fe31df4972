-- Numbers compared with a row's span.
use Rattle.std.specs.Prelude.{◌≡◌, false, ℕ, ◌≤◌, ◌<◌, ltb}
use Rattle.std.proofs.Common.{arith, le-leb}
use Rattle.std.proofs.lemmas.Bool.{lt-leb}
use Rattle.span.specs.Constants.{limit}
use Rattle.span.specs.Numbers.{p_of, q_of}
use Rattle.layer.specs.declared.row.Row.{Row}
use Rattle.layer.specs.Checked.{IsRow}
use Rattle.ancestry.specs.Reading.{covers}

-- the number of a row lies within the limit
pub p_limit : {n v : ℕ} {row : ℕ → Row} → IsRow n row v → p_of (row v).start (row v).set_size ≤ limit
p_limit h = omega (arith, h.sound.end)

-- a number against a row's span
module _ (r : Row) (n : ℕ) where
  pub covers_below : n < p_of r.start r.set_size → false ≡ covers r n
  unfolding covers
  covers_below h = rw (lt-leb (p_of r.start r.set_size) n h)

  pub covers_from : p_of r.start r.set_size ≤ n → ltb n (q_of r.start r.set_size) ≡ covers r n
  unfolding covers
  covers_from h = rw (le-leb (p_of r.start r.set_size) n h)
