-- The parts of a byte tree that were read one by one, and the stores that leave a tree in bytes.
use Rattle.std.specs.Prelude.{◌≡◌, refl, List, ◌++◌, map, ℕ, ◌+◌, ◌*◌, ℤ, length}
use Rattle.std.proofs.Common.{ap, sym, ◌∙◌, arith, length-append}
use Rattle.std.proofs.lemmas.List.{length-map}
use Rattle.std.proofs.lemmas.List.Edits.{sets}
use Rattle.table.specs.declared.state.State.{State}
use Rattle.table.specs.Parts.{Parts, parts_of}
use Rattle.table.specs.Capacity.{Fits}
use Rattle.tally.specs.Layout.{tally_length}
use Rattle.byte_numbers.specs.Bytes.{bytes}
use Rattle.byte_numbers.specs.BytesLaws.{sets_join, sets_all}
use Rattle.byte_numbers.specs.Sign.{unsigned}
use Rattle.bytes_tree.specs.Column.{numbers_at, levels_at, column_of}
use Rattle.bytes_tree.specs.ColumnLaws.{length_column}
use Rattle.bytes_tree.specs.Tree.{tree_rows, field_count, number_count, entry_count, tree_bytes, fields_place, numbers_place, levels_place, ancestors_place, tally_place, parts_in, tally_in, encoded}

-- parts that were read one by one
pub parts_read : (b : List ℕ) (t : Parts) {f m a : List ℕ} {l : List ℤ} → Fits tree_rows t
    → f ≡ numbers_at 2 (length t.fields) b fields_place → m ≡ numbers_at 8 (length t.numbers) b numbers_place
    → l ≡ levels_at (length t.levels) b levels_place → a ≡ numbers_at 2 (length t.ancestors) b ancestors_place → parts_of f m l a ≡ parts_in b
unfolding parts_in
parts_read b t h i j k n = rw (i, j, k, n, h.fields, h.numbers, h.levels, h.ancestors)

-- and a tally
pub tally_read : (b w : List ℕ) {a : List ℕ} → length w ≡ tally_length → a ≡ numbers_at 2 (length w) b tally_place → a ≡ tally_in b
unfolding tally_in
tally_read b w h i = rw (i, h)

-- a tree fills its bytes
pub length_encoded : (s : State) (t : Parts) (w : List ℕ) → Fits tree_rows t → length w ≡ tally_length → length (encoded s t w) ≡ tree_bytes
unfolding encoded
length_encoded s t w f h = simp (length-append, length_column, length-map, f.fields, f.numbers, f.levels, f.ancestors, h)

-- The stores that leave a tree in bytes

-- stores one after another, by their places
sets_next : (us vs l : List ℕ) (i j : ℕ) → i + length us ≡ j → sets (sets l i us) j vs ≡ sets l i (us ++ vs)
sets_next us vs l i j e = rw (← e) (sets_join us vs l i)

pub tree_stored : (l : List ℕ) (s : State) (t : Parts) (w : List ℕ) → length l ≡ tree_bytes → Fits tree_rows t → length w ≡ tally_length
    → sets (sets (sets (sets (sets (sets l 0 (bytes 2 s.count)) fields_place (column_of 2 t.fields)) numbers_place (column_of 8 t.numbers))
    levels_place (column_of 4 (map unsigned t.levels))) ancestors_place (column_of 2 t.ancestors)) tally_place (column_of 2 w) ≡ encoded s t w
unfolding encoded
tree_stored l s t w e f h =
    let c = bytes 2 s.count in
    let x = column_of 2 t.fields in
    let n = column_of 8 t.numbers in
    let v = column_of 4 (map unsigned t.levels) in
    let a = column_of 2 t.ancestors in
    let y = column_of 2 w in
    let lx : length x ≡ field_count * 2 = length_column 2 t.fields ∙ ap (λ (k : ℕ). k * 2) f.fields in
    let ln : length n ≡ number_count * 8 = length_column 8 t.numbers ∙ ap (λ (k : ℕ). k * 8) f.numbers in
    let lv : length v ≡ tree_rows * 4 = length_column 4 (map unsigned t.levels) ∙ ap (λ (k : ℕ). k * 4) (length-map t.levels unsigned ∙ f.levels) in
    let la : length a ≡ entry_count * 2 = length_column 2 t.ancestors ∙ ap (λ (k : ℕ). k * 2) f.ancestors in
    let b1 = sets l 0 c in
    let b2 = sets b1 fields_place x in
    let b3 = sets b2 numbers_place n in
    let b4 = sets b3 levels_place v in
    sets_next a y b4 ancestors_place tally_place (omega arith)
    ∙ sets_next v (a ++ y) b3 levels_place ancestors_place (omega arith)
    ∙ sets_next n (v ++ (a ++ y)) b2 numbers_place levels_place (omega arith)
    ∙ sets_next x (n ++ (v ++ (a ++ y))) b1 fields_place numbers_place (omega arith)
    ∙ sets_next c (x ++ (n ++ (v ++ (a ++ y)))) l 0 fields_place refl
    ∙ sets_all l (c ++ (x ++ (n ++ (v ++ (a ++ y))))) (e ∙ sym (length_encoded s t w f h))
