-- What `all` over the rows below n tells, whose closure answers as a test does.
use Rattle.std.specs.Prelude.{◌≡◌, refl, Bool, true, false, ℕ, ◌+◌, ◌≤◌, ◌<◌}
use Rattle.std.proofs.Common.{ap, sym, ◌∙◌, arith, zero-add, get_or, List, Option, length}
use Rattle.std.specs.Bool.{MatchBool}
use Rattle.std.specs.Option.{MatchOption}
use Rattle.std.specs.Fn.{Called}
use Rattle.std.specs.Iterator.{YieldsThen}
use Rattle.std.specs.List.{range_with_len, FoldsTo, AllWithin, HoldsAt}
use Rattle.std.specs.declared.ops.Range.{Range}
use Rattle.std.proofs.iter.Yields.{nat_range_steps}
use Rattle.std.proofs.lemmas.Iterator.{cases_from_all, YieldsList-from_range}
use Rattle.std.proofs.lemmas.List.FromFn.{length-range_with_len, get_or-range_with_len}
use denote.Param.Members.{Mut}
use Rattle.laws.specs.Test.{all_to}
use Rattle.inspect_laws.proofs.All.{passed_all, passed_stop}

module _ {F : Type 0} {g : Mut F (ℕ × Unit {0}) Bool} {u : Range ℕ} {p : F} where
  pub all_rows : (f : ℕ → Bool) (n : ℕ) (r : Bool)
      → (xs : List ℕ) × (o : Option ℕ) × (q : F) × YieldsThen nat_range_steps (record { start = 0; end = n }) xs o u × FoldsTo (λ a x b. Called g a (x, tt) true b) p xs q × MatchOption o (r ≡ true) (λ x. (r ≡ false) × ((h : F) × Called g q (x, tt) false h))
      → ((x : ℕ) (b : Bool) (q : F) → Called g p (x, tt) b q → (q ≡ p) × (b ≡ f x))
      → r ≡ all_to f n
  all_rows f n r ran k = told r (cases_from_all u p r (λ x. f x ≡ true) (λ x. f x ≡ false) ran (YieldsList-from_range 0 n n refl (omega arith)) (λ x q c. ((k x true q c).0, sym ((k x true q c).1))) (λ x q c. sym ((k x false q c).1)))
    where
      at : (i : ℕ) → i < n → get_or (range_with_len 0 n) i 0 ≡ i
      at i l = get_or-range_with_len 0 n i 0 l ∙ zero-add i

      told : (r : Bool) → MatchBool r (AllWithin (λ x. f x ≡ true) (range_with_len 0 n) 0 (length (range_with_len 0 n))) ((i : ℕ) × (i < length (range_with_len 0 n)) × HoldsAt (λ x. f x ≡ false) (range_with_len 0 n) i) → r ≡ all_to f n
      told true h = passed_all f n (λ x l. sym (ap f (at x l)) ∙ h x 0 (omega arith) (rw (length-range_with_len 0 n) l))
      told false (i, l, h) = let k : i < n = rw (length-range_with_len 0 n) at l in passed_stop f n i k (sym (ap f (at i k)) ∙ h 0)
