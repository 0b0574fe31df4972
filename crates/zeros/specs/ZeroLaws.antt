-- From a place on: how a word of eight bytes, a block of four words and a single byte decide whether all are zero.
use Rattle.std.specs.Prelude.{◌≡◌, refl, List, [], ◌∷◌, ◌++◌, Bool, true, false, ◌&&◌, ℕ, ◌+◌, take, drop, eqb}
use Rattle.std.proofs.Common.{sym, ap, ◌∙◌, arith, take-append-drop, take-add, drop-drop}
use Rattle.byte_numbers.specs.Bytes.{value_at}
use Rattle.zeros.specs.Zeros.{all_zero, zeros_at}
use Rattle.zeros.specs.WordZero.{word_test}

zero_append : (a b : List ℕ) → all_zero (a ++ b) ≡ (all_zero a && all_zero b)
zero_append [] b = refl
zero_append (x ∷ a) b = go (eqb x 0) (zero_append a b)
  where
    go : (t : Bool) → all_zero (a ++ b) ≡ (all_zero a && all_zero b) → (t && all_zero (a ++ b)) ≡ ((t && all_zero a) && all_zero b)
    go true e = e
    go false e = refl

module _ (bytes : List ℕ) (i : ℕ) where
  -- the test of a word is that of its bytes
  pub word_is : eqb (value_at 8 bytes i) 0 ≡ zeros_at 8 bytes i
  word_is = word_test (take 8 (drop i bytes))

  -- past zeros the rest decides
  pub zeros_on : (w : ℕ) → zeros_at w bytes i ≡ true → all_zero (drop i bytes) ≡ all_zero (drop (i + w) bytes)
  zeros_on w z =
      ap all_zero (sym (take-append-drop w (drop i bytes))) ∙ zero_append (take w (drop i bytes)) (drop w (drop i bytes)) ∙ rw (z, drop-drop w i bytes)

zeros_join : (bytes : List ℕ) (i v w : ℕ) → zeros_at (v + w) bytes i ≡ (zeros_at v bytes i && zeros_at w bytes (i + v))
zeros_join bytes i v w = ap all_zero (take-add v w (drop i bytes)) ∙ zero_append (take v (drop i bytes)) (take w (drop v (drop i bytes))) ∙ rw (drop-drop v i bytes)

module _ (bytes : List ℕ) (i : ℕ) where
  abbrev word : ℕ → Bool
  word place = zeros_at 8 bytes place

  block_is : zeros_at 32 bytes i ≡ (word i && (word (i + 8) && (word (i + 16) && word (i + 24))))
  block_is =
      let third : i + 8 + 8 ≡ i + 16 = omega arith in
      let fourth : i + 16 + 8 ≡ i + 24 = omega arith in
      zeros_join bytes i 8 24 ∙ rw (zeros_join bytes (i + 8) 8 16, third, zeros_join bytes (i + 16) 8 8, fourth)

  -- of the four words of a block the first that is not zero decides, or the last
  pub block_first : word i ≡ false → zeros_at 32 bytes i ≡ false
  block_first a = block_is ∙ rw a

  pub block_second : word i ≡ true → word (i + 8) ≡ false → zeros_at 32 bytes i ≡ false
  block_second a b = block_is ∙ rw (a, b)

  pub block_third : word i ≡ true → word (i + 8) ≡ true → word (i + 16) ≡ false → zeros_at 32 bytes i ≡ false
  block_third a b c = block_is ∙ rw (a, b, c)

  pub block_fourth : word i ≡ true → word (i + 8) ≡ true → word (i + 16) ≡ true → zeros_at 32 bytes i ≡ word (i + 24)
  block_fourth a b c = block_is ∙ rw (a, b, c)
