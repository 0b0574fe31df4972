-- Spans within the limit: their numbers fit 64 bits, so that code can compare them.
use Rattle.std.specs.Prelude.{◌≡◌, refl, Bool, true, ◌≢◌, List, ℕ, ◌≤◌, ◌<◌, leb}
use Rattle.std.proofs.Common.{sym, ◌∙◌, arith, le-leb}
use Rattle.std.proofs.Math.Decide.{dec_lt}
use Rattle.std.proofs.lemmas.Bool.{lt-leb}
use Rattle.laws.specs.Sum.{sum_one_le, count_none}
use Rattle.laws.specs.Test.{Says, says_leb, says_eqb, says_true, says_false, says_all, says_get, all_to, bit}
use Rattle.tree_laws.specs.Ancestor.{none}
use Rattle.span.specs.Constants.{limit}
use Rattle.span.specs.Numbers.{within_limit}
use Rattle.layer.specs.Layer.{Layer, upper, set_size, start}
use Rattle.layer.specs.Spans.{end}
use Rattle.inspect_laws.specs.Apart.{is_apart_next}
use Rattle.inspect_laws.specs.Order.{Arranged}
use Rattle.inspect_tree.specs.Columns.{span_layer, uppers}

-- the span of row x ends within the limit
abbrev pub is_small : Layer → ℕ → Bool
is_small t x = within_limit (start t x) (set_size t x)

-- and so does that of its compressed parent
pub record SmallRow (t : Layer) (x : ℕ) : Type 0 where
  pub own : end t x ≤ limit
  pub above : upper t x ≢ none → end t (upper t x) ≤ limit

pub record Small (f m : List ℕ) (n : ℕ) : Type 0 where
  pub each : (x : ℕ) → x < n → SmallRow (span_layer f m 0) x

-- Laws

pub says_small : (t : Layer) (n : ℕ) → Says ((x : ℕ) → x < n → end t x ≤ limit) (all_to (is_small t) n)
says_small t n = says_all (is_small t) n (λ x l. says_leb (end t x) limit)

-- where compressed parents are rows below n, the test of all rows says it of each row and its compressed parent
pub small_of : (f m : List ℕ) (n : ℕ) → all_to (is_small (span_layer f m 0)) n ≡ true → ((x : ℕ) → x < n → uppers f x ≢ none → uppers f x < n) → Small f m n
small_of f m n e inside =
    let s = says_get (says_small (span_layer f m 0) n) e in
    record { each = λ x l. record { own = s x l; above = λ h. s (uppers f x) (inside x l h) } }

-- siblings are apart, next to each other in the order, where the first ends by the start of the second
pub apart_end : (t : Layer) (v w : ℕ) {u u' : ℕ} → u ≡ upper t v → u' ≡ upper t w → u ≢ none → u ≡ u' → leb (end t v) (start t w) ≡ is_apart_next t v w
apart_end t v w e f d s =
    rw (says_false (says_eqb (upper t v) none) (λ z. d (e ∙ z)), says_true (says_eqb (upper t v) (upper t w)) (sym e ∙ s ∙ f))

-- an order of the rows below n holds rows below n only
pub arranged_in : {n : ℕ} {o : ℕ → ℕ} → Arranged n o → (i : ℕ) → i < n → o i < n
arranged_in {n} {o} a i l = elim (dec_lt (o i) n) [
  | yes y ↦ y
  | no z ↦
      let past : bit (leb n (o i)) ≡ 1 = rw (le-leb n (o i) (omega arith)) refl in
      absurd (omega (arith, a.sums (λ j. bit (leb n j)), count_none (leb n) n (λ j k. lt-leb n j k), sum_one_le (λ j. bit (leb n (o j))) n i l, past))
]
