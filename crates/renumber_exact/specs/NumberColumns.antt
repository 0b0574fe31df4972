-- The numbers of a layer read as columns: what the store of one row leaves of upper rows, sizes, spans and entries.
use Rattle.std.specs.Prelude.{◌≡◌, refl, ◌⊎◌, ◌≢◌, List, ℕ, ◌≤◌, ◌<◌}
use Rattle.std.proofs.Common.{ap, sym, ◌∙◌, arith}
use Rattle.std.proofs.Math.Decide.{ℕ_discrete}
use Rattle.tree_laws.specs.Ancestor.{none}
use Rattle.span.specs.Constants.{limit}
use Rattle.span.specs.Numbers.{p_of, end_of, reach_of}
use Rattle.span.specs.NumberLaws.{whole}
use Rattle.layer.specs.Layout.{field_stride, number_stride, entry_stride, upper_place, size_place, set_size_place, start_place, next_free_place}
use Rattle.layer.specs.Row.{field_at, number_at, entry_at}
use Rattle.layer.specs.Entries.{entry_from, entry_above}
use Rattle.layer.specs.Write.{with_field, with_number}
use Rattle.renumber_laws.specs.Column.{put}
use Rattle.renumber_laws.proofs.Column.{put_same, put_other}
use Rattle.renumber_laws.specs.Numbers.{Numbers, placed}
use Rattle.renumber.specs.Entries.{with_entries}
use Rattle.renumber.specs.NumberWalk.{Written, placed_row, started, row_numbered}
use Rattle.renumber_exact.specs.Columns.{Holds, holds_set, set_same, set_link, set_other}
use Rattle.renumber_exact.specs.EntryColumns.{above_entry, entries_hold, entries_own, entries_other}

-- the parts w hold the columns s, and all else of the fields b
pub record Numbered (c : ℕ) (b : List ℕ) (w : Written) (s : Numbers) : Type 0 where
  pub fields : Holds field_stride c w.fields
  pub numbers : Holds number_stride c w.numbers
  pub ancestors : Holds entry_stride c w.ancestors
  pub upper : (y : ℕ) → field_at w.fields y upper_place ≡ s.upper y
  pub size : (y : ℕ) → field_at w.fields y size_place ≡ s.size y
  pub set_size : (y : ℕ) → field_at w.fields y set_size_place ≡ s.set_size y
  pub rest : (y k : ℕ) → k < field_stride → k ≢ upper_place → k ≢ size_place → k ≢ set_size_place → field_at w.fields y k ≡ field_at b y k
  pub start : (y : ℕ) → number_at w.numbers y start_place ≡ s.start y
  pub next_free : (y : ℕ) → y ≢ none → number_at w.numbers y next_free_place ≡ s.next_free y
  pub entry : (y i : ℕ) → i < entry_stride → entry_at w.ancestors y i ≡ s.entry y i

module _ {c : ℕ} {b : List ℕ} {w : Written} {s : Numbers} (n : Numbered c b w s) (x u a k : ℕ) (l : x < c) (o : (u ≡ none) ⊎ (u < c)) where
  -- upper row, size and set size
  abbrev f₁ : List ℕ
  f₁ = with_field w.fields x upper_place u

  abbrev f₂ : List ℕ
  f₂ = with_field f₁ x size_place k

  holds₁ : Holds field_stride c f₁
  holds₁ = holds_set n.fields _ u

  holds₂ : Holds field_stride c f₂
  holds₂ = holds_set holds₁ _ k

  -- the next free number of u, if any
  free_above : (y : ℕ) → y ≢ none → number_at (with_number w.numbers u next_free_place (end_of a k)) y next_free_place ≡ put s.next_free u (end_of a k) y
  free_above y d = set_link n.numbers u next_free_place (end_of a k) o (omega arith) s.next_free y d (n.next_free y d)

  abbrev m₁ : List ℕ
  m₁ = with_number w.numbers u next_free_place (end_of a k)

  abbrev m₂ : List ℕ
  m₂ = with_number m₁ x start_place a

  holds₃ : Holds number_stride c m₁
  holds₃ = holds_set n.numbers _ (end_of a k)

  holds₄ : Holds number_stride c m₂
  holds₄ = holds_set holds₃ _ a

  entry_own : (i : ℕ) → i < entry_stride → entry_at (with_entries w.ancestors x u k) x i ≡ entry_from x (reach_of k) i (entry_above s.entry u i)
  entry_own i j = entries_own n.ancestors x u k l i j
      ∙ rw (above_entry n.ancestors u i o j, n.entry u i j) refl

  entry_after : (y i : ℕ) → i < entry_stride
      → entry_at (with_entries w.ancestors x u k) y i ≡ put s.entry x (λ j. entry_from x (reach_of k) j (entry_above s.entry u j)) y i
  entry_after y i j = elim (ℕ_discrete y x) [
    | yes e ↦ rw e (entry_own i j ∙ sym (ap (λ (f : ℕ → ℕ). f i) (put_same s.entry x (λ j. entry_from x (reach_of k) j (entry_above s.entry u j)))))
    | no d ↦ entries_other n.ancestors x u k l y i d j ∙ n.entry y i j
        ∙ sym (ap (λ (f : ℕ → ℕ). f i) (put_other s.entry x (λ j. entry_from x (reach_of k) j (entry_above s.entry u j)) y d))
  ]

  -- the store of row x, of size k, below u
  pub row_stored : number_at w.numbers u next_free_place ≡ a → end_of a k ≤ limit → Numbered c b (row_numbered w x u k) (placed x u a k s)
  unfolding row_numbered placed_row started placed
  row_stored e m = let z = whole a k m in rw (e, z.p_whole, z.end_whole) record {
    fields = holds_set holds₂ _ k;
    numbers = holds_set holds₄ _ (p_of a k);
    ancestors = entries_hold n.ancestors x u k l;
    upper = λ y. set_other holds₂ x set_size_place k (omega arith) y upper_place (omega arith) (λ z. omega arith)
        ∙ set_other holds₁ x size_place k (omega arith) y upper_place (omega arith) (λ z. omega arith)
        ∙ set_same n.fields x upper_place u l (omega arith) s.upper y (n.upper y);
    size = λ y. set_other holds₂ x set_size_place k (omega arith) y size_place (omega arith) (λ z. omega arith)
        ∙ set_same holds₁ x size_place k l (omega arith) s.size y
        (set_other n.fields x upper_place u (omega arith) y size_place (omega arith) (λ z. omega arith) ∙ n.size y);
    set_size = λ y. set_same holds₂ x set_size_place k l (omega arith) s.set_size y
        (set_other holds₁ x size_place k (omega arith) y set_size_place (omega arith) (λ z. omega arith)
        ∙ set_other n.fields x upper_place u (omega arith) y set_size_place (omega arith) (λ z. omega arith) ∙ n.set_size y);
    rest = λ y j q d₁ d₂ d₃. set_other holds₂ x set_size_place k (omega arith) y j q d₃ ∙ set_other holds₁ x size_place k (omega arith) y j q d₂
        ∙ set_other n.fields x upper_place u (omega arith) y j q d₁ ∙ n.rest y j q d₁ d₂ d₃;
    start = λ y. set_other holds₄ x next_free_place (p_of a k) (omega arith) y start_place (omega arith) (λ z. omega arith)
        ∙ set_same holds₃ x start_place a l (omega arith) s.start y
        (set_other n.numbers u next_free_place (end_of a k) (omega arith) y start_place (omega arith) (λ z. omega arith) ∙ n.start y);
    next_free = λ y d. set_same holds₄ x next_free_place (p_of a k) l (omega arith) (put s.next_free u (end_of a k)) y
        (set_other holds₃ x start_place a (omega arith) y next_free_place (omega arith) (λ z. omega arith) ∙ free_above y d);
    entry = entry_after;
  }
