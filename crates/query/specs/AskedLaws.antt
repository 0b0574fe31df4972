-- What the tests before a question establish, and what they lead to.
use Rattle.std.specs.Prelude.{◌≡◌, refl, Bool, true, false, ◌&&◌, Option, Some, None, Ok, Err, ℕ, ◌≤◌, ◌<◌, ltb}
use Rattle.std.proofs.Common.{arith, lt-ltb, le-ltb}
use Rattle.laws.specs.Test.{Says, holds, fails, pick}
use Rattle.table.specs.declared.refusal.Refusal.TheVariants.{UnknownNode, Misfit, Corrupt}
use Rattle.table.specs.declared.state.State.{State}
use Rattle.table.specs.Parts.{Parts}
use Rattle.table.specs.Capacity.{Fits, capacity_of, on_fit}
use Rattle.table.proofs.CapacityLaws.{fits_capacity}
use Rattle.table.specs.State.{is_standing}
use Rattle.table.proofs.StateLaws.{says_standing}
use Rattle.query.specs.Node.{Held}
use Rattle.query.specs.Sought.{sought_in}
use Rattle.query.specs.Asked.{asked}

-- by the tests, in their order
module _ (a : Parts) (s : State) (x y : ℕ) where
  pub asked_misfit : capacity_of a ≡ None → Err Misfit ≡ asked a s x y
  unfolding asked
  asked_misfit e = rw e

  module _ {c : ℕ} (e : capacity_of a ≡ Some c) where
    pub asked_unknown : (ltb x s.count && ltb y s.count) ≡ false → Err UnknownNode ≡ asked a s x y
    unfolding asked
    asked_unknown h = rw (e, h)

    pub asked_unknown_x : s.count ≤ x → Err UnknownNode ≡ asked a s x y
    unfolding asked
    asked_unknown_x h = rw (e, le-ltb x s.count h)

    pub asked_unknown_y : x < s.count → s.count ≤ y → Err UnknownNode ≡ asked a s x y
    unfolding asked
    asked_unknown_y i h = rw (e, lt-ltb x s.count i, le-ltb y s.count h)

    module _ (k : (ltb x s.count && ltb y s.count) ≡ true) where
      pub asked_fallen : is_standing c s ≡ false → Err Corrupt ≡ asked a s x y
      unfolding asked
      asked_fallen h = rw (e, k, h)

      pub asked_sought : is_standing c s ≡ true → sought_in a.fields a.ancestors s.count x y ≡ asked a s x y
      unfolding asked
      asked_sought h = rw (e, k, h)

-- rows below a standing count lie within parts that fit
standing_held : {c : ℕ} {a : Parts} {s : State} → Fits c a → s.count ≤ c → Held s.count a
standing_held f h = record {
  rows = record { fields = omega (arith, f.fields); numbers = omega (arith, f.numbers) };
  levels = omega (arith, f.levels);
  entries = omega (arith, f.ancestors);
}

-- where a root is found, the rows in use lie within the parts
pub root_held : (a : Parts) (s : State) (x y r : ℕ) → asked a s x y ≡ Ok r → Held s.count a
unfolding asked
root_held a s x y r = by_fit (capacity_of a) (fits_capacity a)
  where
    by_count : {c : ℕ} (k : Bool) {b : Bool} → Fits c a → Says (s.count ≤ c) b
        → pick k (pick b (sought_in a.fields a.ancestors s.count x y) (Err Corrupt)) (Err UnknownNode) ≡ Ok r → Held s.count a
    by_count true f (holds h) e = standing_held f h
    by_count true f (fails h) e = let z : ◌≡◌ {A = ℕ} 0 1 = cc in absurd (omega arith)
    by_count false f h e = let z : ◌≡◌ {A = ℕ} 0 1 = cc in absurd (omega arith)

    by_fit : (f : Option ℕ) → ((c : ℕ) → f ≡ Some c → Fits c a)
        → on_fit f (λ c. pick (ltb x s.count && ltb y s.count) (pick (is_standing c s) (sought_in a.fields a.ancestors s.count x y) (Err Corrupt)) (Err UnknownNode)) (Err Misfit) ≡ Ok r
        → Held s.count a
    by_fit (Some c) f e = by_count (ltb x s.count && ltb y s.count) (f c refl) (says_standing c s) e
    by_fit None f e = let z : ◌≡◌ {A = ℕ} 0 1 = cc in absurd (omega arith)
