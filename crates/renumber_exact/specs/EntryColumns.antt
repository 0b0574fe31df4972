-- The ancestor entries read as columns: what the store of one row's entries leaves.
use Rattle.std.specs.Prelude.{◌≡◌, refl, ◌⊎◌, ◌≢◌, List, [], ◌∷◌, ◌++◌, ℕ, zero, suc, ◌+◌, ◌-◌, ◌*◌, ◌≤◌, ◌<◌, length, get_or, take, drop, replicate}
use Rattle.std.proofs.Common.{ap, ◌∙◌, inl, inr, zero-add, add-zero, mul-le-mul_right, arith, ne_eqb, le-ltb, length-append, length-drop, length-take-le, get_or-append-add, get_or-take, get_or-drop}
use Rattle.std.proofs.Math.Decide.{dec_lt}
use Rattle.std.proofs.lemmas.List.{get_or-replicate}
use Rattle.std.proofs.Math.ListN.{get_or-append}
use Rattle.laws.specs.Strided.{place_lt}
use Rattle.tree_laws.specs.Ancestor.{none}
use Rattle.span.specs.Numbers.{reach_of}
use Rattle.layer.specs.Layout.{entry_stride}
use Rattle.layer.specs.Row.{entry_at}
use Rattle.layer.specs.Entries.{entry_from, entry_above}
use Rattle.renumber.specs.Entries.{entries_from, above_of, with_entries}
use Rattle.renumber.specs.EntriesLaws.{above_none, above_row, length_above}
use Rattle.renumber_exact.specs.Columns.{Holds}

-- A part in the middle replaced

module _ (l ys : List ℕ) (k n : ℕ) (s : length ys ≡ n) (h : k + n ≤ length l) where
  abbrev spliced : List ℕ
  spliced = take k l ++ (ys ++ drop n (drop k l))

  before : length (take k l) ≡ k
  before = length-take-le k l (omega arith)

  splice_length : length spliced ≡ length l
  splice_length = simp (length-append, before, s, length-drop) (omega arith)

  splice_in : (i : ℕ) → i < n → get_or spliced (k + i) 0 ≡ get_or ys i 0
  splice_in i b = rw before at (get_or-append-add (take k l) (ys ++ drop n (drop k l)) i 0) ∙ get_or-append ys (drop n (drop k l)) 0 i (omega arith)

  splice_low : (i : ℕ) → i < k → get_or spliced i 0 ≡ get_or l i 0
  splice_low i b = get_or-append (take k l) (ys ++ drop n (drop k l)) 0 i (omega (arith, before)) ∙ get_or-take k l i 0 b

  splice_high : (i : ℕ) → k + n ≤ i → get_or spliced i 0 ≡ get_or l i 0
  splice_high i b =
      let e : i ≡ k + (n + (i - (k + n))) = omega arith in
      let j : ℕ = i - (k + n) in
      rw e ((rw before at (get_or-append-add (take k l) (ys ++ drop n (drop k l)) (n + j) 0))
      ∙ (rw s at (get_or-append-add ys (drop n (drop k l)) j 0)) ∙ get_or-drop n (drop k l) j 0 ∙ get_or-drop k l (n + j) 0)

-- The entries of a row

entries_length : (x set_size i : ℕ) (l : List ℕ) → length (entries_from x set_size i l) ≡ length l
unfolding entries_from
entries_length x set_size i [] = refl
entries_length x set_size i (e ∷ es) = ap suc (entries_length x set_size (suc i) es)

entries_at : (x set_size i : ℕ) (l : List ℕ) (j : ℕ) → j < length l → get_or (entries_from x set_size i l) j 0 ≡ entry_from x (reach_of set_size) (i + j) (get_or l j 0)
unfolding entries_from
entries_at x set_size i [] j h = absurd (omega arith)
entries_at x set_size i (e ∷ es) zero h = rw (add-zero i)
entries_at x set_size i (e ∷ es) (suc j) h =
    let z : i + suc j ≡ suc i + j = omega arith in
    rw z (entries_at x set_size (suc i) es j (omega arith))

module _ {c : ℕ} {a : List ℕ} (h : Holds entry_stride c a) where
  -- the entries of the upper row, none where there is none
  pub above_entry : (u i : ℕ) → (u ≡ none) ⊎ (u < c) → i < entry_stride → get_or (above_of a u) i 0 ≡ entry_above (entry_at a) u i
  above_entry u i (inl e) b = rw (e, above_none a none (omega (arith, h.long, h.most))) (get_or-replicate entry_stride i none 0 b)
  above_entry u i (inr l) b = rw (
    ne_eqb u none (λ e. omega (arith, h.most)),
    above_row a u (omega (arith, h.long, mul-le-mul_right entry_stride l)),
  ) (get_or-take entry_stride (drop (u * entry_stride) a) i 0 b ∙ get_or-drop (u * entry_stride) a i 0)

  module _ (x u set_size : ℕ) (l : x < c) where
    room : x * entry_stride + entry_stride ≤ length a
    room = omega (arith, h.long, mul-le-mul_right entry_stride l)

    stored : with_entries a x u set_size
        ≡ take (x * entry_stride) a ++ (entries_from x set_size 0 (above_of a u) ++ drop entry_stride (drop (x * entry_stride) a))
    unfolding with_entries
    stored = rw (le-ltb (length a) (x * entry_stride + entry_stride) room)

    long : length (entries_from x set_size 0 (above_of a u)) ≡ entry_stride
    long = entries_length x set_size 0 (above_of a u) ∙ length_above a u

    pub entries_hold : Holds entry_stride c (with_entries a x u set_size)
    entries_hold = record { most = h.most; long = rw stored (splice_length a (entries_from x set_size 0 (above_of a u)) (x * entry_stride) entry_stride long room ∙ h.long) }

    pub entries_own : (i : ℕ) → i < entry_stride → entry_at (with_entries a x u set_size) x i ≡ entry_from x (reach_of set_size) i (get_or (above_of a u) i 0)
    entries_own i b = rw stored (splice_in a (entries_from x set_size 0 (above_of a u)) (x * entry_stride) entry_stride long room i b
        ∙ rw zero-add at (entries_at x set_size 0 (above_of a u) i (omega (arith, length_above a u))))

    pub entries_other : (y i : ℕ) → y ≢ x → i < entry_stride → entry_at (with_entries a x u set_size) y i ≡ entry_at a y i
    entries_other y i d b = rw stored (elim (dec_lt y x) [
      | yes m ↦ splice_low a (entries_from x set_size 0 (above_of a u)) (x * entry_stride) entry_stride long room (y * entry_stride + i) (place_lt entry_stride x y i m b)
      | no m ↦ splice_high a (entries_from x set_size 0 (above_of a u)) (x * entry_stride) entry_stride long room (y * entry_stride + i)
          (omega (arith, mul-le-mul_right entry_stride (above y x d m)))
    ])
      where
        above : (y x : ℕ) → y ≢ x → ¬ (y < x) → suc x ≤ y
        above y x d m = omega arith
