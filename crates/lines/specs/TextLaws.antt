-- Laws of a text written byte by byte: bytes that fit stand in it in their order.
use Rattle.std.specs.Prelude.{◌≡◌, refl, List, [], ◌∷◌, ◌++◌, ℕ, suc, ◌+◌, ◌-◌, ◌/◌, ◌%◌, ◌≤◌, ◌<◌, length, get_or, drop, set, replicate}
use Rattle.std.proofs.Common.{sym, ap, ◌∙◌, append-nil, add-one, arith, drop-cons, drop_of_length-le, length-append, lt-ltb, le-ltb}
use Rattle.std.proofs.Math.Seq.{append_snoc, set-append_seam}
use Rattle.lines.specs.declared.Text.{Text}
use Rattle.lines.specs.Decimal.{digit, digits}
use Rattle.lines.specs.DecimalLaws.{digits_one, digits_more}
use Rattle.lines.specs.Text.{text_of, push, append}

-- ---- a byte more

pub push_room : (t : Text) (b : ℕ) → t.len < 96 → push t b ≡ record { bytes = set t.bytes t.len b; len = t.len + 1 }
unfolding push
push_room t b h = rw (lt-ltb t.len 96 h)

pub push_full : (t : Text) (b : ℕ) → 96 ≤ t.len → push t b ≡ t
unfolding push
push_full t b h = rw (le-ltb t.len 96 h)

pub push_append : (t : Text) (b : ℕ) → push t b ≡ append t (b ∷ [])
unfolding append
push_append t b = refl

-- ---- bytes more

pub append_append : (t : Text) (xs ys : List ℕ) → append (append t xs) ys ≡ append t (xs ++ ys)
unfolding append
append_append t [] ys = refl
append_append t (x ∷ xs) ys = append_append (push t x) xs ys

-- a loop that writes bytes one after another
pub append_from : (t : Text) (bytes : List ℕ) (i b : ℕ) → i < length bytes → b ≡ get_or bytes i 0
    → append (push t b) (drop (i + 1) bytes) ≡ append t (drop i bytes)
unfolding append
append_from t bytes i b h e = rw (e, add-one, drop-cons bytes i 0 h)

pub append_none : (t : Text) (bytes : List ℕ) (i : ℕ) → length bytes ≤ i → append t (drop i bytes) ≡ t
unfolding append
append_none t bytes i h = rw (drop_of_length-le bytes {i = i} h)

-- a byte after a line takes the place of the first zero
zeros_set : (line : List ℕ) (n b : ℕ) → length line < n
    → set (line ++ replicate (n - length line) 0) (length line) b ≡ (line ++ b ∷ []) ++ replicate (n - suc (length line)) 0
zeros_set line n b h =
    let e : n - length line ≡ suc (n - suc (length line)) = omega arith in
    rw (e, set-append_seam line 0 (replicate (n - suc (length line)) 0) b) (sym (append_snoc line b (replicate (n - suc (length line)) 0)))

push_text : (line : List ℕ) (b : ℕ) → length line < 96 → push (text_of line) b ≡ text_of (line ++ b ∷ [])
unfolding text_of
push_text line b h =
    push_room (text_of line) b h
    ∙ rw (length-append line (b ∷ []), add-one (length line), zeros_set line 96 b h)

append_text : (line more : List ℕ) → length line + length more ≤ 96 → append (text_of line) more ≡ text_of (line ++ more)
unfolding append
append_text line [] h = ap text_of (sym (append-nil line))
append_text line (b ∷ more) h =
    rw (push_text line b (omega arith))
    (append_text (line ++ b ∷ []) more (omega (arith, length-append line (b ∷ []))) ∙ ap text_of (append_snoc line b more))

-- bytes that fit make the text of their line
pub append_line : (t : Text) (line : List ℕ) → length line ≤ 96 → t ≡ append (text_of []) line → (t ≡ text_of line) × (t.len ≤ 96)
unfolding text_of
append_line t line h e = let whole = e ∙ append_text [] line (omega arith) in (whole, rw whole h)

-- ---- a number more

pub append_one : (t : Text) (n : ℕ) → n < 10 → push t (digit n) ≡ append t (digits n)
append_one t n h = rw (digits_one n h) (push_append t (digit n))

pub append_more : (t : Text) (n : ℕ) → 10 ≤ n → push (append t (digits (n / 10))) (digit (n % 10)) ≡ append t (digits n)
append_more t n h =
    rw (digits_more n h) (push_append (append t (digits (n / 10))) (digit (n % 10)) ∙ append_append t (digits (n / 10)) (digit (n % 10) ∷ []))
