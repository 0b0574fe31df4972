-- A word is 0 exactly when each of its bytes is (02, M-103), and that is what the test of the bytes says.
use Rattle.std.specs.Prelude.{◌≡◌, refl, List, [], ◌∷◌, ℕ, zero, suc, ◌<◌, length, get_or, eqb}
use Rattle.std.proofs.Common.{arith}
use Rattle.laws.specs.Test.{Says, holds, says_eq, says_map, says_and, says_eqb}
use Rattle.byte_numbers.specs.Bytes.{value}
use Rattle.zeros.specs.Zeros.{all_zero}

-- each byte is 0
abbrev pub EachZero : List ℕ → Type 0
EachZero bytes = (i : ℕ) → i < length bytes → get_or bytes i 0 ≡ 0

module _ (b : ℕ) (bytes : List ℕ) where
  each_more : b ≡ 0 → EachZero bytes → EachZero (b ∷ bytes)
  each_more e z zero h = e
  each_more e z (suc i) h = z i (omega arith)

  each_rest : EachZero (b ∷ bytes) → EachZero bytes
  each_rest z i h = z (suc i) (omega arith)

pub says_zero : (bytes : List ℕ) → Says (EachZero bytes) (all_zero bytes)
says_zero [] = holds (λ i h. absurd (omega arith))
says_zero (b ∷ bytes) =
    says_map (λ z. each_more b bytes z.0 z.1) (λ z. (z 0 (omega arith), each_rest b bytes z)) (says_and (says_eqb b 0) (λ _. says_zero bytes))

word_each : (bytes : List ℕ) → value bytes ≡ 0 → EachZero bytes
word_each [] e = λ i h. absurd (omega arith)
word_each (b ∷ bytes) e = each_more b bytes (omega arith) (word_each bytes (omega arith))

each_word : (bytes : List ℕ) → EachZero bytes → value bytes ≡ 0
each_word [] z = refl
each_word (b ∷ bytes) z = rw (z 0 (omega arith), each_word bytes (each_rest b bytes z))

-- a word is 0 exactly when each of its bytes is, of eight bytes as of any number
pub word_zero : (bytes : List ℕ) → Says (EachZero bytes) (eqb (value bytes) 0)
word_zero bytes = says_map (word_each bytes) (each_word bytes) (says_eqb (value bytes) 0)

-- so the test of the word is that of its bytes
pub word_test : (bytes : List ℕ) → eqb (value bytes) 0 ≡ all_zero bytes
word_test bytes = says_eq (λ z. z) (λ z. z) (word_zero bytes) (says_zero bytes)
