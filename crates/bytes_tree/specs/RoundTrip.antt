-- A tree that is kept as bytes is read back, and bytes that are read are written back: on trees whose numbers fit, and on bytes, both are each other's inverse.
use Rattle.std.specs.Prelude.{◌≡◌, ℕ, zero, suc, ◌+◌, ◌*◌, ◌^◌, ◌≤◌, ◌<◌, ℤ, pos, take, drop}
use Rattle.std.proofs.Math.Path.{refl, ap, sym}
use Rattle.std.proofs.Common.{◌∙◌, pow-suc, lt_of_lt_of_le, length-take, length-drop, take-append-drop, take_at, take-add, take_all, drop-drop, get_or-take, get_or-drop, length-take-le}
use mathlib.Core.List.{List, [], ◌∷◌, ◌++◌, append_assoc, append-nil, map}
use Rattle.std.proofs.Math.Nat.{pow-le-pow_right}
use native.Mathlib.Omega.{arith}
use Rattle.std.proofs.Math.ListN.{length, get_or, length-append, length-map, get_or-map}
use Rattle.std.proofs.Math.Seq.{drop-append-add}
use Rattle.table.specs.declared.state.State.{State}
use Rattle.table.specs.Parts.{Parts, parts_of}
use Rattle.table.specs.Capacity.{Fits}
use Rattle.tally.specs.Layout.{tally_length}
use Rattle.laws.specs.Tabulate.{tabulate, tabulate_from, tabulated}
use Rattle.byte_numbers.specs.Bytes.{value, bytes, value_at}
use Rattle.byte_numbers.specs.BytesLaws.{length_bytes, value_bytes, bytes_value}
use Rattle.byte_numbers.specs.Sign.{signed, unsigned, Levels32}
use Rattle.byte_numbers.specs.SignLaws.{signed_unsigned, unsigned_signed, unsigned_small}
use Rattle.bytes_tree.specs.Column.{numbers_at, levels_at, column_of}
use Rattle.bytes_tree.specs.ColumnLaws.{length_column}
use Rattle.bytes_tree.specs.Tree.{tree_rows, field_count, number_count, entry_count, tree_bytes, fields_place, numbers_place, levels_place, ancestors_place, tally_place, state_in, parts_in, tally_in, Held, encoded, Under, InBytes}

-- Columns, over any width

-- number i of a column with anything behind it
part_at : (w : ℕ) (xs post : List ℕ) (i : ℕ) → i < length xs → take w (drop (i * w) (column_of w xs ++ post)) ≡ bytes w (get_or xs i 0)
part_at w [] post i h = absurd (omega arith)
part_at w (x ∷ xs) post zero h =
    let z : 0 * w ≡ 0 = omega arith in
    rw (z, append_assoc (bytes w x) (column_of w xs) post) (take_at (bytes w x) (column_of w xs ++ post) w (length_bytes w x))
part_at w (x ∷ xs) post (suc i) h =
    let z : suc i * w ≡ length (bytes w x) + i * w = rw (length_bytes w x) (omega arith) in
    rw (z, append_assoc (bytes w x) (column_of w xs) post, drop-append-add (bytes w x) (column_of w xs ++ post) (i * w)) (part_at w xs post i (omega arith))

-- and with anything before it
value_at_lem : (w : ℕ) (pre xs post : List ℕ) (i : ℕ) → i < length xs → get_or xs i 0 < 256 ^ w → value_at w (pre ++ (column_of w xs ++ post)) (length pre + i * w) ≡ get_or xs i 0
value_at_lem w pre xs post i h k =
    ap (λ (l : List ℕ). value (take w l)) (drop-append-add pre (column_of w xs ++ post) (i * w)) ∙ ap value (part_at w xs post i h) ∙ value_bytes w (get_or xs i 0) k

get_d_unsigned : (xs : List ℤ) (i : ℕ) → get_or (map unsigned xs) i 0 ≡ unsigned (get_or xs i (pos 0))
unfolding unsigned
get_d_unsigned xs i = get_or-map unsigned xs i (pos 0)

module _ (pre post : List ℕ) (place n : ℕ) (p : length pre ≡ place) where
  pub column_read : (w : ℕ) (xs : List ℕ) → length xs ≡ n → Under (256 ^ w) xs → numbers_at w n (pre ++ (column_of w xs ++ post)) place ≡ xs
  unfolding numbers_at
  column_read w xs q u = rw (← p, ← q) (sym (tabulated (λ i. value_at w (pre ++ (column_of w xs ++ post)) (length pre + i * w)) 0 xs (λ i h. sym (value_at_lem w pre xs post i h (u i h)))))

  pub levels_read : (xs : List ℤ) → length xs ≡ n → Levels32 xs
      → levels_at n (pre ++ (column_of 4 (map unsigned xs) ++ post)) place ≡ xs
  unfolding levels_at
  levels_read xs q u = rw (← p, ← q) (sym (tabulated (λ i. signed (value_at 4 (pre ++ (column_of 4 (map unsigned xs) ++ post)) (length pre + i * 4))) (pos 0) xs (λ i h. sym (go i h))))
    where
      go : (i : ℕ) → i < length xs → signed (value_at 4 (pre ++ (column_of 4 (map unsigned xs) ++ post)) (length pre + i * 4)) ≡ get_or xs i (pos 0)
      go i h =
          let e : get_or (map unsigned xs) i 0 ≡ unsigned (get_or xs i (pos 0)) = get_d_unsigned xs i in
          let k : i < length (map unsigned xs) = rw length-map h in
          ap signed (value_at_lem 4 pre (map unsigned xs) post i k (rw e (unsigned_small (get_or xs i (pos 0)) (u i h))) ∙ e) ∙ signed_unsigned (get_or xs i (pos 0)) (u i h)

-- Bytes that are read and written again

value_small : (l : List ℕ) → Under 256 l → value l < 256 ^ length l
value_small [] u = omega arith
value_small (x ∷ l) u =
    let h : x < 256 = u 0 (omega arith) in
    let k : value l < 256 ^ length l = value_small l (λ i m. u (suc i) (omega arith)) in
    let p : 256 ^ suc (length l) ≡ 256 ^ length l * 256 = pow-suc 256 (length l) in
    omega arith

module _ (b : List ℕ) (u : Under 256 b) where
  part_under : (w place : ℕ) → Under 256 (take w (drop place b))
  part_under w place i h =
      let k : i < w = omega (arith, length-take w (drop place b)) in
      let m : place + i < length b = omega (arith, length-take w (drop place b), length-drop place b) in
      rw (get_or-take w (drop place b) i 0 k, get_or-drop place b i 0) (u (place + i) m)

  bytes_at : (w place : ℕ) → place + w ≤ length b → bytes w (value_at w b place) ≡ take w (drop place b)
  bytes_at w place h =
      let k : length (take w (drop place b)) ≡ w = length-take-le w (drop place b) (rw length-drop (omega arith)) in
      let e : bytes (length (take w (drop place b))) (value_at w b place) ≡ take w (drop place b) = bytes_value (take w (drop place b)) (part_under w place) in
      ap (λ (v : ℕ). bytes v (value_at w b place)) (sym k) ∙ e

  column_from : (w place k n : ℕ) → place + (k + n) * w ≤ length b
      → column_of w (tabulate_from (λ i. value_at w b (place + i * w)) k n) ≡ take (n * w) (drop (place + k * w) b)
  column_from w place k zero h = let z : 0 * w ≡ 0 = omega arith in rw z
  column_from w place k (suc n) h =
      let j = place + k * w in
      let e : place + suc k * w ≡ place + k * w + w = omega arith in
      let z : suc n * w ≡ w + n * w = omega arith in
      rw (bytes_at w (place + k * w) (omega arith), column_from w place (suc k) n (omega arith), e, z)
      (sym (take-add w (n * w) (drop j b) ∙ ap (λ (r : List ℕ). take w (drop j b) ++ take (n * w) r) (drop-drop w j b)))

  pub column_written : (w place n : ℕ) → place + n * w ≤ length b → column_of w (numbers_at w n b place) ≡ take (n * w) (drop place b)
  unfolding numbers_at tabulate
  column_written w place n h =
      let z : place + 0 * w ≡ place = omega arith in
      column_from w place 0 n (omega arith) ∙ rw z

  level_small : (place : ℕ) → value_at 4 b place < 4294967296
  level_small place =
      let k : length (take 4 (drop place b)) ≤ 4 = omega (arith, length-take 4 (drop place b)) in
      lt_of_lt_of_le (value_small (take 4 (drop place b)) (part_under 4 place)) (pow-le-pow_right (omega arith) k)

  levels_from : (place k n : ℕ) → map unsigned (tabulate_from (λ i. signed (value_at 4 b (place + i * 4))) k n) ≡ tabulate_from (λ i. value_at 4 b (place + i * 4)) k n
  levels_from place k zero = refl
  levels_from place k (suc n) = rw (unsigned_signed (value_at 4 b (place + k * 4)) (level_small (place + k * 4)), levels_from place (suc k) n)

  pub levels_written : (place n : ℕ) → map unsigned (levels_at n b place) ≡ numbers_at 4 n b place
  unfolding levels_at numbers_at tabulate
  levels_written place n = levels_from place 0 n

-- Trees

state_eq : {a : ℕ} (s : State) → a ≡ s.count → ◌≡◌ {A = State} (record { count = a }) s
state_eq s p = rw p

parts_eq : {f m a : List ℕ} {l : List ℤ} (t : Parts) → f ≡ t.fields → m ≡ t.numbers → l ≡ t.levels → a ≡ t.ancestors → parts_of f m l a ≡ t
parts_eq t p q r h = rw (p, q, r, h)

-- a tree whose numbers fit is read back
module _ (s : State) (t : Parts) (w : List ℕ) (f : Fits tree_rows t) (h : length w ≡ tally_length) (g : InBytes s t w) where
  pub state_back : state_in (encoded s t w) ≡ s
  unfolding state_in encoded
  state_back = state_eq s (value_bytes 2 s.count g.count)

  pub parts_back : parts_in (encoded s t w) ≡ t
  unfolding parts_in encoded
  parts_back =
      let c = bytes 2 s.count in
      let x = column_of 2 t.fields in
      let n = column_of 8 t.numbers in
      let v = column_of 4 (map unsigned t.levels) in
      let a = column_of 2 t.ancestors in
      let y = column_of 2 w in
      let lx : length x ≡ field_count * 2 = length_column 2 t.fields ∙ ap (λ (k : ℕ). k * 2) f.fields in
      let ln : length n ≡ number_count * 8 = length_column 8 t.numbers ∙ ap (λ (k : ℕ). k * 8) f.numbers in
      let lv : length v ≡ tree_rows * 4 = length_column 4 (map unsigned t.levels) ∙ ap (λ (k : ℕ). k * 4) (length-map t.levels unsigned ∙ f.levels) in
      let e : x ++ (n ++ (v ++ (a ++ y))) ≡ (x ++ (n ++ v)) ++ (a ++ y) = simp append_assoc in
      parts_eq t
      (column_read c (n ++ (v ++ (a ++ y))) fields_place field_count refl 2 t.fields f.fields g.fields)
      (column_read (c ++ x) (v ++ (a ++ y)) numbers_place number_count (omega arith) 8 t.numbers f.numbers g.numbers)
      (ap (λ (l : List ℕ). levels_at tree_rows (c ++ l) levels_place) (sym (append_assoc x n (v ++ (a ++ y))))
      ∙ levels_read (c ++ (x ++ n)) (a ++ y) levels_place tree_rows (simp length-append (omega arith)) t.levels f.levels g.levels)
      (ap (λ (l : List ℕ). numbers_at 2 entry_count (c ++ l) ancestors_place) e
      ∙ column_read (c ++ (x ++ (n ++ v))) y ancestors_place entry_count (simp length-append (omega arith)) 2 t.ancestors f.ancestors g.ancestors)

  pub tally_back : tally_in (encoded s t w) ≡ w
  unfolding tally_in encoded
  tally_back =
      let c = bytes 2 s.count in
      let x = column_of 2 t.fields in
      let n = column_of 8 t.numbers in
      let v = column_of 4 (map unsigned t.levels) in
      let a = column_of 2 t.ancestors in
      let lx : length x ≡ field_count * 2 = length_column 2 t.fields ∙ ap (λ (k : ℕ). k * 2) f.fields in
      let ln : length n ≡ number_count * 8 = length_column 8 t.numbers ∙ ap (λ (k : ℕ). k * 8) f.numbers in
      let lv : length v ≡ tree_rows * 4 = length_column 4 (map unsigned t.levels) ∙ ap (λ (k : ℕ). k * 4) (length-map t.levels unsigned ∙ f.levels) in
      let la : length a ≡ entry_count * 2 = length_column 2 t.ancestors ∙ ap (λ (k : ℕ). k * 2) f.ancestors in
      let e : x ++ (n ++ (v ++ (a ++ column_of 2 w))) ≡ (x ++ (n ++ (v ++ a))) ++ (column_of 2 w ++ []) = simp (append_assoc, append-nil) in
      ap (λ (l : List ℕ). numbers_at 2 tally_length (c ++ l) tally_place) e
      ∙ column_read (c ++ (x ++ (n ++ (v ++ a)))) [] tally_place tally_length (simp length-append (omega arith)) 2 w h g.tally

-- what was written is held
pub written_held : (b : List ℕ) (s : State) (t : Parts) (w : List ℕ) → Fits tree_rows t → length w ≡ tally_length → b ≡ encoded s t w → InBytes s t w → Held b s t w
written_held b s t w f h e g = (ap state_in e ∙ state_back s t w f h g, (ap parts_in e ∙ parts_back s t w f h g, ap tally_in e ∙ tally_back s t w f h g))

-- what stands at a place and what follows it
follow : (b : List ℕ) (p n : ℕ) {a r : List ℕ} → a ≡ take n (drop p b) → r ≡ drop (p + n) b → a ++ r ≡ drop p b
follow b p n {a} {r} x y =
    ap (λ (l : List ℕ). l ++ r) x ∙ ap (λ (l : List ℕ). take n (drop p b) ++ l) (y ∙ sym (drop-drop n p b)) ∙ take-append-drop n (drop p b)

-- every run of bytes of that length is the tree that it holds
pub bytes_back : (b : List ℕ) → length b ≡ tree_bytes → Under 256 b → encoded (state_in b) (parts_in b) (tally_in b) ≡ b
unfolding encoded state_in parts_in tally_in
bytes_back b e u =
    let tally : column_of 2 (numbers_at 2 tally_length b tally_place) ≡ drop tally_place b =
    column_written b u 2 tally_place tally_length (omega arith) ∙ take_all (tally_length * 2) (drop tally_place b) (rw length-drop (omega arith)) in
    let levels : column_of 4 (map unsigned (levels_at tree_rows b levels_place)) ≡ take (tree_rows * 4) (drop levels_place b) =
    ap (column_of 4) (levels_written b u levels_place tree_rows) ∙ column_written b u 4 levels_place tree_rows (omega arith) in
    follow b 0 2 (bytes_at b u 2 0 (omega arith))
    (follow b fields_place (field_count * 2) (column_written b u 2 fields_place field_count (omega arith))
    (follow b numbers_place (number_count * 8) (column_written b u 8 numbers_place number_count (omega arith))
    (follow b levels_place (tree_rows * 4) levels
    (follow b ancestors_place (entry_count * 2) (column_written b u 2 ancestors_place entry_count (omega arith)) tally))))
