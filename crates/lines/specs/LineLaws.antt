-- Laws of the printed lines: values written one after another, and every line fits.
use Rattle.std.specs.Prelude.{◌≡◌, List, [], ◌∷◌, ◌++◌, ℕ, zero, suc, ◌+◌, ◌*◌, ◌^◌, ◌≤◌, ◌<◌, ℤ, pos, nat_abs, get_or, take, drop}
use Rattle.std.proofs.Common.{◌∙◌, append_assoc, arith, length-append, drop_of_length-le, drop-cons}
use Rattle.std.proofs.Math.Numerals.{add-one}
use Prim.Native.Char.{code}
use Rattle.std.proofs.Math.ListN.{length, length-take}
use Rattle.std.proofs.Math.Seq.{get_or-take}
use Rattle.lines.specs.declared.Text.{Text}
use Rattle.lines.specs.Bytes.{bytes_of}
use Rattle.lines.specs.Decimal.{digits, signed}
use Rattle.lines.specs.DecimalLaws.{length_digits_32, length_signed_32}
use Rattle.lines.specs.Line.{values_of, line_of, header_line, end_line}
use Rattle.lines.specs.Text.{text_of, push, append}
use Rattle.lines.specs.TextLaws.{push_append, append_append, append_line}

-- ---- values, one after another

module _ (zs : List ℤ) (count i : ℕ) where
  -- a space and the value at a place, then the values after it
  pub append_values : (t : Text) → i < count → i < length zs
      → append (append (push t (code " ")) (signed (get_or zs i (pos 0)))) (values_of (drop (i + 1) (take count zs))) ≡ append t (values_of (drop i (take count zs)))
  unfolding append values_of
  append_values t h l =
      let within : i < length (take count zs) = omega (arith, length-take count zs) in
      rw (drop-cons (take count zs) i (pos 0) within, get_or-take count zs i (pos 0) h, add-one i)
      (append_append (push t (code " ")) (signed (get_or zs i (pos 0))) (values_of (drop (suc i) (take count zs))))

  -- no value is left
  pub append_no_values : (t : Text) → length (take count zs) ≤ i → append t (values_of (drop i (take count zs))) ≡ t
  unfolding append values_of
  append_no_values t h = rw (drop_of_length-le (take count zs) {i = i} h)

-- ---- how long a line is

-- every value fits 32 bits
abbrev pub Small : List ℤ → Type 0
Small zs = (i : ℕ) → i < length zs → nat_abs (get_or zs i (pos 0)) < 2 ^ 32

length_values : (zs : List ℤ) (count : ℕ) → Small zs → length (values_of (take count zs)) ≤ 12 * length zs
unfolding values_of
length_values zs zero small = omega arith
length_values [] (suc count) small = omega arith
length_values (z ∷ zs) (suc count) small =
    rw (length-append (bytes_of " " ++ signed z) (values_of (take count zs)))
    (omega (arith, length_signed_32 z (small 0 (omega arith)), length_values zs count (λ i h. small (suc i) (omega arith))))

length_line : (ordinal letter : ℕ) (zs : List ℤ) (count : ℕ) → ordinal < 2 ^ 32 → length zs ≡ 6 → Small zs
    → length (line_of ordinal letter (take count zs)) ≤ 96
unfolding line_of
length_line ordinal letter zs count h six small =
    simp (length-append) (omega (arith, length_digits_32 ordinal h, length_values zs count small))

length_header : (capacity : ℕ) → capacity < 2 ^ 32 → length (header_line capacity) ≤ 96
unfolding header_line
length_header capacity h = simp (length-append) (omega (arith, length_digits_32 capacity h))

length_end : (count total : ℕ) → count < 2 ^ 32 → total < 2 ^ 32 → length (end_line count total) ≤ 96
unfolding end_line
length_end count total h k = simp (length-append) (omega (arith, length_digits_32 count h, length_digits_32 total k))

-- ---- a line written part by part is whole

pub line_written : (t : Text) (ordinal letter : ℕ) (zs : List ℤ) (count : ℕ) → ordinal < 2 ^ 32 → length zs ≡ 6 → Small zs
    → t ≡ push (append (push (push (append (text_of []) (digits ordinal)) (code " ")) letter) (values_of (take count zs))) (code "\n")
    → (t ≡ text_of (line_of ordinal letter (take count zs))) × (t.len ≤ 96)
unfolding line_of
line_written t ordinal letter zs count h six small e =
    append_line t (line_of ordinal letter (take count zs)) (length_line ordinal letter zs count h six small)
    (e ∙ simp (push_append, append_append, append_assoc))

pub header_written : (t : Text) (capacity : ℕ) → capacity < 2 ^ 32
    → t ≡ push (append (append (text_of []) (bytes_of "echo ")) (digits capacity)) (code "\n")
    → (t ≡ text_of (header_line capacity)) × (t.len ≤ 96)
unfolding header_line
header_written t capacity h e =
    append_line t (header_line capacity) (length_header capacity h) (e ∙ simp (push_append, append_append, append_assoc))

pub end_written : (t : Text) (count total : ℕ) → count < 2 ^ 32 → total < 2 ^ 32
    → t ≡ push (append (push (append (append (text_of []) (bytes_of "end ")) (digits count)) (code " ")) (digits total)) (code "\n")
    → (t ≡ text_of (end_line count total)) × (t.len ≤ 96)
unfolding end_line
end_written t count total h k e =
    append_line t (end_line count total) (length_end count total h k) (e ∙ simp (push_append, append_append, append_assoc))
