-- Laws of ancestor entries: one that is made from a true entry of the compressed parent is true.
use Rattle.std.specs.Prelude.{◌≡◌, ℕ, ◌<◌, Bool, ◌≢◌}
use Rattle.std.proofs.Math.Decide.{ℕ_discrete}
use Rattle.laws.specs.Test.{Says, says_map, says_true, says_false, says_eqb, says_ltb}
use Rattle.tree_laws.specs.Ancestor.{none, Forest}
use Rattle.tree_laws.specs.Highest.{Highest, absent, highest}
use Rattle.tree_laws.specs.HighestLaws.{highest_root, highest_below}
use Rattle.span.specs.Power.{power}
use Rattle.span.specs.PowerLaws.{below_power, power_below}
use Rattle.layer.specs.Layer.{Layer, upper}
use Rattle.layer.specs.Spans.{reach}
use Rattle.layer.specs.Entries.{BelowPower, Entry, absent as entry_Is_absent, highest as entry_highest, is_below, entry_from, entry_through}

-- the test says it
pub says_below : (t : Layer) (i x : ℕ) → Says (BelowPower t i x) (is_below (reach t x) i)
says_below t i x = says_map (power_below i (reach t x)) (below_power i (reach t x)) (says_ltb (reach t x) (power i))

-- an entry is the highest compressed ancestor below a power
entry_is : {t : Layer} {i x e : ℕ} → Highest (upper t) (BelowPower t i) x e → Entry t i x e
entry_is (absent f) = entry_Is_absent f
entry_is (highest p y f) = entry_highest p y f

is_entry : {t : Layer} {i x e : ℕ} → Entry t i x e → Highest (upper t) (BelowPower t i) x e
is_entry (entry_Is_absent f) = absent f
is_entry (entry_highest p y f) = highest p y f

module _ (t : Layer) {rank : ℕ → ℕ} {n : ℕ} (f : Forest (upper t) rank n) (i : ℕ) where
  abbrev test : ℕ → Bool
  test x = is_below (reach t x) i

  says : (x : ℕ) → x < n → Says (BelowPower t i x) (test x)
  says x l = says_below t i x

  -- at a root
  pub entry_root : (x : ℕ) → x < n → upper t x ≡ none → Entry t i x (entry_from x (reach t x) i none)
  entry_root x l e = entry_is (highest_root f test says x l e)

  -- at any row
  pub entry_through_lem : (x : ℕ) → x < n → (upper t x ≢ none → Entry t i (upper t x) (t.entry (upper t x) i))
      → Entry t i x (entry_through t.entry (upper t) (reach t) x i)
  entry_through_lem x l above = elim (ℕ_discrete (upper t x) none) [
    | yes e ↦ rw (says_true (says_eqb (upper t x) none) e) (entry_root x l e)
    | no d ↦ rw (says_false (says_eqb (upper t x) none) d) (entry_is (highest_below f test says l d (is_entry (above d))))
  ]
