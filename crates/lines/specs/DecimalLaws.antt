-- Laws of the printed numbers: their digits read back as the number, are digits, lead with no zero, and are few.
use Rattle.std.specs.Prelude.{◌≡◌, refl, List, [], ◌∷◌, ◌++◌, ℕ, zero, suc, ◌+◌, ◌-◌, ◌*◌, ◌/◌, ◌%◌, ◌^◌, ◌≤◌, ◌<◌, ℤ, pos, negsuc, nat_abs, length, get_or}
use Rattle.std.proofs.Common.{sym, ap, ◌∙◌, div-lt_iff_lt-mul, div-add-mod', mod-lt, pow-suc, arith, length-append, lt-ltb, le-ltb, ne_eqb}
use Rattle.std.proofs.Math.Decide.{dec_lt}
use Rattle.std.proofs.Math.ListN.{get_or-append}
use Rattle.std.proofs.lemmas.List.{get_or_at}
use Rattle.laws.specs.Measure.{strong}
use Rattle.lines.specs.Decimal.{digit, digits_up_to, digits, signed, read_on, value_of, signed_value_of}

-- ---- one more digit

up_to_one : (most n : ℕ) → n < 10 → digits_up_to (suc most) n ≡ digit n ∷ []
unfolding digits_up_to
up_to_one most n h = rw (lt-ltb n 10 h)

up_to_more : (most n : ℕ) → 10 ≤ n → digits_up_to (suc most) n ≡ digits_up_to most (n / 10) ++ digit (n % 10) ∷ []
unfolding digits_up_to
up_to_more most n h = rw (le-ltb n 10 h)

-- a tenth is smaller
pub tenth_below : (n : ℕ) → 10 ≤ n → n / 10 < n
tenth_below n h = omega (arith, div-add-mod' n 10)

-- any bound above the number gives the same digits
up_to_any : (a b n : ℕ) → n < a → n < b → digits_up_to a n ≡ digits_up_to b n
up_to_any zero b n ha hb = absurd (omega arith)
up_to_any (suc a) zero n ha hb = absurd (omega arith)
up_to_any (suc a) (suc b) n ha hb =
    elim (dec_lt n 10) [
      | yes h ↦ up_to_one a n h ∙ sym (up_to_one b n h)
      | no h ↦
          let l : 10 ≤ n = omega arith in
          let t = tenth_below n l in
          up_to_more a n l
          ∙ ap (λ (ds : List ℕ). ds ++ digit (n % 10) ∷ []) (up_to_any a b (n / 10) (omega arith) (omega arith))
          ∙ sym (up_to_more b n l)
    ]

pub digits_one : (n : ℕ) → n < 10 → digits n ≡ digit n ∷ []
unfolding digits
digits_one n h = up_to_one n n h

pub digits_more : (n : ℕ) → 10 ≤ n → digits n ≡ digits (n / 10) ++ digit (n % 10) ∷ []
unfolding digits
digits_more n h =
    up_to_more n n h
    ∙ ap (λ (ds : List ℕ). ds ++ digit (n % 10) ∷ []) (up_to_any n (suc (n / 10)) (n / 10) (tenth_below n h) (omega arith))

-- induction from a number's tenth to the number
by_tenths : (P : ℕ → Type 0) → ((n : ℕ) → n < 10 → P n) → ((n : ℕ) → 10 ≤ n → P (n / 10) → P n) → (n : ℕ) → P n
by_tenths P one more =
    strong P (λ n below. elim (dec_lt n 10) [ yes h ↦ one n h | no h ↦ let l : 10 ≤ n = omega arith in more n l (below (n / 10) (tenth_below n l)) ])

-- ---- the digits read back as the number

read_last : (n : ℕ) (bytes : List ℕ) (b : ℕ) → read_on n (bytes ++ b ∷ []) ≡ read_on n bytes * 10 + (b - 48)
read_last n [] b = refl
read_last n (a ∷ bytes) b = read_last (n * 10 + (a - 48)) bytes b

pub value_digits : (n : ℕ) → value_of (digits n) ≡ n
value_digits =
    by_tenths (λ n. value_of (digits n) ≡ n)
    (λ n h. rw (digits_one n h) (omega arith))
    (λ n h tenth. rw (digits_more n h, read_last 0 (digits (n / 10)) (digit (n % 10)), tenth) (omega (arith, div-add-mod' n 10)))

-- ---- every byte is a digit, and the first is not zero unless the number is

pub record IsDigit (b : ℕ) : Type 0 where
  pub low : 48 ≤ b
  pub high : b ≤ 57

pub digits_some : (n : ℕ) → 0 < length (digits n)
digits_some =
    by_tenths (λ n. 0 < length (digits n))
    (λ n h. rw (digits_one n h) (omega arith))
    (λ n h tenth. rw (digits_more n h, length-append (digits (n / 10)) (digit (n % 10) ∷ [])) (omega arith))

last_case : (P : ℕ → Type 0) (bytes : List ℕ) (b : ℕ) → ((i : ℕ) → i < length bytes → P (get_or bytes i 0)) → P b
    → (i : ℕ) → i < length (bytes ++ b ∷ []) → P (get_or (bytes ++ b ∷ []) i 0)
last_case P bytes b all last i h =
    elim (dec_lt i (length bytes)) [
      | yes l ↦ rw (get_or-append bytes (b ∷ []) 0 i l) (all i l)
      | no l ↦ rw (get_or_at bytes b [] 0 i (omega (arith, length-append bytes (b ∷ [])))) last
    ]

pub digits_are : (n i : ℕ) → i < length (digits n) → IsDigit (get_or (digits n) i 0)
digits_are =
    by_tenths (λ n. (i : ℕ) → i < length (digits n) → IsDigit (get_or (digits n) i 0))
    (λ n h. rw (digits_one n h) (last_case IsDigit [] (digit n) (λ i l. absurd (omega arith)) (record { low = omega arith; high = omega arith })))
    (λ n h tenth.
    rw (digits_more n h)
    (last_case IsDigit (digits (n / 10)) (digit (n % 10)) tenth (record { low = omega arith; high = omega (arith, mod-lt n {m = 10} (omega arith)) })))

pub digits_lead : (n : ℕ) → 0 < n → 48 < get_or (digits n) 0 0
digits_lead =
    by_tenths (λ n. 0 < n → 48 < get_or (digits n) 0 0)
    (λ n h p. rw (digits_one n h) (omega arith))
    (λ n h tenth p.
    rw (digits_more n h, get_or-append (digits (n / 10)) (digit (n % 10) ∷ []) 0 0 (digits_some (n / 10)))
    (tenth (omega (arith, div-add-mod' n 10, mod-lt n {m = 10} (omega arith)))))

-- ---- how many digits

pub length_digits : (k n : ℕ) → n < 10 ^ suc k → length (digits n) ≤ suc k
length_digits zero n h = rw (digits_one n h) (omega arith)
length_digits (suc k) n h =
    elim (dec_lt n 10) [
      | yes l ↦ rw (digits_one n l) (omega arith)
      | no l ↦
          let m : 10 ≤ n = omega arith in
          let tenth = length_digits k (n / 10) ((div-lt_iff_lt-mul {k = 10} (omega arith)).1 (rw (pow-suc 10 (suc k)) at h)) in
          rw (digits_more n m, length-append (digits (n / 10)) (digit (n % 10) ∷ [])) (omega arith)
    ]

-- a number of 32 bits takes at most ten digits
pub length_digits_32 : (n : ℕ) → n < 2 ^ 32 → length (digits n) ≤ 10
length_digits_32 n h = length_digits 9 n (omega arith)

-- ---- whole numbers

pub value_signed : (z : ℤ) → signed_value_of (signed z) ≡ z
unfolding signed_value_of
value_signed (pos n) = rw (ne_eqb (get_or (digits n) 0 0) 45 (λ e. omega (arith, (digits_are n 0 (digits_some n)).low)), value_digits n)
value_signed (negsuc n) = rw (value_digits (suc n))

-- a signed number of 32 bits takes at most ten digits and the sign
pub length_signed_32 : (z : ℤ) → nat_abs z < 2 ^ 32 → length (signed z) ≤ 11
length_signed_32 (pos n) h = omega (arith, length_digits_32 n h)
length_signed_32 (negsuc n) h = omega (arith, length_digits_32 (suc n) h)
