-- Laws of columns, over any width.
use Rattle.std.specs.Prelude.{◌≡◌, refl, List, [], ◌∷◌, ◌++◌, map, ℕ, zero, suc, ◌+◌, ◌*◌, ◌≤◌, ◌<◌, ℤ, length, take, drop, get_or, set}
use Rattle.std.proofs.Common.{ap, sym, ◌∙◌, append_assoc, append-nil, arith, add-one, length-append, length-drop, drop_of_length-le, length-take-le}
use Rattle.std.proofs.lemmas.List.Edits.{sets}
use Rattle.byte_numbers.specs.Bytes.{bytes}
use Rattle.byte_numbers.specs.BytesLaws.{length_bytes, sets_join}
use Rattle.byte_numbers.specs.Sign.{unsigned}
use Rattle.laws.specs.Tabulate.{tabulate, tabulate_from, length_tabulate}
use Rattle.bytes_tree.specs.Column.{column_of, joined}

pub length_column : (w : ℕ) (xs : List ℕ) → length (column_of w xs) ≡ length xs * w
length_column w [] = omega arith
length_column w (x ∷ xs) = simp (length-append, length_bytes, length_column w xs) (omega arith)

-- a column as numbers one after another
pub joined_column : (w : ℕ) (xs : List ℕ) → joined (bytes w) xs ≡ column_of w xs
joined_column w [] = refl
joined_column w (x ∷ xs) = rw (joined_column w xs)

pub joined_levels : (zs : List ℤ) → joined (λ z. bytes 4 (unsigned z)) zs ≡ column_of 4 (map unsigned zs)
joined_levels [] = refl
joined_levels (z ∷ zs) = rw (joined_levels zs)

module _ {A : Type 0} (f : A → List ℕ) where
  joined_more : (xs : List A) (i : ℕ) (x : A) → i < length xs → x ≡ get_or xs i x → joined f (take (suc i) xs) ≡ joined f (take i xs) ++ f x
  joined_more [] i x h e = absurd (omega arith)
  joined_more (y ∷ xs) zero x h e = rw e (append-nil (f y))
  joined_more (y ∷ xs) (suc i) x h e = rw (joined_more xs i x (omega arith) e) (sym (append_assoc (f y) (joined f (take i xs)) (f x)))

  module _ (w : ℕ) (each : (x : A) → length (f x) ≡ w) where
    length_joined : (xs : List A) → length (joined f xs) ≡ length xs * w
    length_joined [] = omega arith
    length_joined (x ∷ xs) = simp (length-append, each x, length_joined xs) (omega arith)

    -- a loop that stores numbers from a place on, one a turn
    pub store_more : (l : List ℕ) (xs : List A) (place i : ℕ) (x : A) → i < length xs → x ≡ get_or xs i x
        → sets (sets l place (joined f (take i xs))) (place + i * w) (f x) ≡ sets l place (joined f (take (i + 1) xs))
    store_more l xs place i x h s =
        let e : length (joined f (take i xs)) ≡ i * w = length_joined (take i xs) ∙ ap (λ (k : ℕ). k * w) (length-take-le i xs (omega arith)) in
        rw (← e, add-one, joined_more xs i x h s) (sets_join (joined f (take i xs)) (f x) l place)

module _ {A : Type 0} (f : ℕ → A) where
  front_more : (k i : ℕ) (l : List A) (v : A) → i < length l → v ≡ f (k + i)
      → set (tabulate_from f k i ++ drop i l) i v ≡ tabulate_from f k (suc i) ++ drop (suc i) l
  front_more k i [] v h e = absurd (omega arith)
  front_more k zero (x ∷ l) v h e = let z : k + 0 ≡ k = omega arith in rw (e, z)
  front_more k (suc i) (x ∷ l) v h e = let z : k + suc i ≡ suc k + i = omega arith in ap (λ (r : List A). f k ∷ r) (front_more (suc k) i l v (omega arith) (rw z at e))

  -- a loop that fills a list from the front, one value a turn
  abbrev pub filled : List A → ℕ → List A
  filled l i = tabulate f i ++ drop i l

  pub filled_none : (l : List A) → l ≡ filled l 0
  unfolding tabulate
  filled_none l = refl

  pub filled_more : (l : List A) (i : ℕ) (v : A) → i < length l → v ≡ f i → set (filled l i) i v ≡ filled l (i + 1)
  unfolding tabulate
  filled_more l i v h e = let z : 0 + i ≡ i = omega arith in rw (add-one i) (front_more 0 i l v h (rw z e))

  pub filled_all : (l : List A) (i : ℕ) → i ≡ length l → filled l i ≡ tabulate f (length l)
  filled_all l i e = rw (e, drop_of_length-le l {i = length l} (omega arith)) (append-nil (tabulate f (length l)))

  pub length_filled : (l : List A) (i : ℕ) → i ≤ length l → length (filled l i) ≡ length l
  length_filled l i h = omega (arith, length-append (tabulate f i) (drop i l), length_tabulate f i, length-drop i l)
