-- Laws of cells, a list of numbers.
use Rattle.std.specs.Prelude.{◌≡◌, List, ℕ, ◌<◌, eqb, length, get_or, set, replicate}
use Rattle.std.proofs.Common.{sym, arith, get_or-set_same, get_or-set_other}
use Rattle.std.proofs.Math.Decide.{ℕ_discrete}
use Rattle.std.proofs.lemmas.List.{length-replicate, get_or-replicate}
use Rattle.laws.specs.Test.{pick, says_eqb, says_true, says_false}

-- what a cell holds after a store
pub read_put : (s : List ℕ) (i a x : ℕ) → x < length s → get_or (set s i a) x 0 ≡ pick (eqb i x) a (get_or s x 0)
read_put s i a x l = elim (ℕ_discrete i x) [
  | yes e ↦ rw (says_true (says_eqb i x) e, e) (get_or-set_same s x a 0 l)
  | no d ↦ rw (says_false (says_eqb i x) d) (get_or-set_other s i x a 0 (λ e. d (sym e)))
]

-- what a cell holds after `fill`
pub read_fill : (n v x : ℕ) → x < length (replicate n v) → get_or (replicate n v) x 0 ≡ v
read_fill n v x l = get_or-replicate n x v 0 (omega (arith, length-replicate n v))
