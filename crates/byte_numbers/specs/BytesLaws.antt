-- Laws of numbers as bytes, over any width.
use Rattle.std.specs.Prelude.{◌≡◌, refl, List, [], ◌∷◌, ◌++◌, ℕ, zero, suc, ◌+◌, ◌-◌, ◌*◌, ◌^◌, ◌/◌, ◌%◌, ◌≤◌, ◌<◌, length, take, drop, get_or, set}
use Rattle.std.proofs.Common.{ap, sym, ◌∙◌, append_assoc, append-nil, pow-suc, arith, drop_of_length-le, drop-drop}
use Rattle.std.proofs.Math.Nat.{div-div-eq-div-mul}
use Rattle.std.specs.Int.{Width, byte_len, bytes_low_first, byte_worth, sum_through, from_le_bytes}
use borrow.Rule.Slice.PartMut.{put_mid}
use Rattle.std.proofs.lemmas.List.Edits.{sets, sets-eq}
use Rattle.byte_numbers.specs.Bytes.{value, bytes, value_at}

-- Reading

-- a byte more, above the others
value_more : (k : ℕ) (l : List ℕ) → value (take (suc k) l) ≡ value (take k l) + get_or l k 0 * 256 ^ k
value_more zero [] = omega arith
value_more zero (x ∷ l) = omega arith
value_more (suc k) [] = omega arith
value_more (suc k) (x ∷ l) = rw (value_more k l, pow-suc 256 k) (omega arith)

-- std's number of the first bytes of a list, and of the bytes at a place
low_worth : (k : ℕ) (l : List ℕ) → sum_through (λ j. byte_worth j (get_or l j 0)) k ≡ value (take (suc k) l)
low_worth zero l = omega (arith, value_more zero l)
low_worth (suc k) l = ap (λ (n : ℕ). n + get_or l (suc k) 0 * 256 ^ suc k) (low_worth k l) ∙ sym (value_more (suc k) l)

pub value_read : (w : Width) (l : List ℕ) (i : ℕ) → from_le_bytes w (drop i l) ≡ value_at (suc (byte_len w - 1)) l i
value_read w l i = low_worth (byte_len w - 1) (drop i l)

-- Writing

cons_eq : {x y : ℕ} {a b : List ℕ} → x ≡ y → a ≡ b → x ∷ a ≡ y ∷ b
cons_eq e f = rw (e, f)

pub length_bytes : (w x : ℕ) → length (bytes w x) ≡ w
length_bytes zero x = refl
length_bytes (suc w) x = ap suc (length_bytes w (x / 256))

-- std's bytes of a number, from the second on, and all of them
bytes_above : (k w x : ℕ) → bytes_low_first (suc k) w x ≡ bytes w (x / 256 ^ suc k)
bytes_above k zero x = refl
bytes_above k (suc w) x =
    cons_eq refl (bytes_above (suc k) w x ∙ ap (bytes w) (ap (λ (n : ℕ). x / n) (pow-suc 256 (suc k)) ∙ sym (div-div-eq-div-mul x (256 ^ suc k) 256)))

low_first : (w x : ℕ) → bytes_low_first 0 w x ≡ bytes w x
low_first zero x = refl
low_first (suc w) x = let one : 256 ^ suc zero ≡ 256 = refl in cons_eq refl (bytes_above 0 w x ∙ ap (λ (n : ℕ). bytes w (x / n)) one)

-- std's bytes written to a part of as many
pub stored : (l written : List ℕ) (i w x : ℕ) → i + w ≤ length l → written ≡ bytes_low_first 0 w x → put_mid i (i + w - i) l written ≡ sets l i (bytes w x)
stored l written i w x h e =
    let k : i + w - i ≡ w = omega arith in
    let f : written ≡ bytes w x = e ∙ low_first w x in
    let n : length (bytes w x) ≡ w = length_bytes w x in
    rw (k, f, sets-eq (bytes w x) l i (omega arith), n, drop-drop w i l) (sym (append_assoc (take i l) (bytes w x) (drop (i + w) l)))

-- stores one after another
pub sets_join : (us vs l : List ℕ) (i : ℕ) → sets (sets l i us) (i + length us) vs ≡ sets l i (us ++ vs)
sets_join [] vs l i = let z : i + 0 ≡ i = omega arith in rw z
sets_join (u ∷ us) vs l i = let z : i + suc (length us) ≡ suc i + length us = omega arith in rw z (sets_join us vs (set l i u) (suc i))

-- stores from the front on, as many as there are places, leave nothing of a list
pub sets_all : {A : Type 0} (l values : List A) → length l ≡ length values → sets l 0 values ≡ values
sets_all {A} l values e =
    let z : 0 + length values ≡ length values = omega arith in
    sets-eq values l 0 (omega arith) ∙ ap (λ (n : ℕ). values ++ drop n l) z ∙ ap (λ (r : List A). values ++ r) (drop_of_length-le l {i = length values} (omega arith)) ∙ append-nil values

-- Round trips

-- a number that fits w bytes is read back
pub value_bytes : (w x : ℕ) → x < 256 ^ w → value (bytes w x) ≡ x
value_bytes zero x h = omega arith
value_bytes (suc w) x h =
    let p : 256 ^ suc w ≡ 256 ^ w * 256 = pow-suc 256 w in
    let k : x / 256 < 256 ^ w = omega arith in
    rw (value_bytes w (x / 256) k) (omega arith)

-- and so are bytes
pub bytes_value : (l : List ℕ) → ((i : ℕ) → i < length l → get_or l i 0 < 256) → bytes (length l) (value l) ≡ l
bytes_value [] h = refl
bytes_value (b ∷ l) h =
    let k : b < 256 = h 0 (omega arith) in
    let e : (b + 256 * value l) / 256 ≡ value l = omega arith in
    let f : (b + 256 * value l) % 256 ≡ b = omega arith in
    cons_eq f (rw e (bytes_value l (λ i m. h (suc i) (omega arith))))
