-- At a site the entries that a row copies from its upper row are links.
use Rattle.std.specs.Prelude.{◌≡◌, refl, true, ◌⊎◌, ◌≢◌, ℕ, ◌<◌, get_or}
use Rattle.std.proofs.Common.{◌∙◌, arith, ne_eqb}
use Rattle.std.proofs.Math.Logic.{inl, inr}
use Rattle.std.proofs.Math.Decide.{ℕ_discrete}
use Rattle.laws.specs.Test.{says_true, says_get, says_and, says_ltb}
use Rattle.tree_laws.specs.Ancestor.{none, Anc}
use Rattle.tree_laws.specs.Join.{Old}
use Rattle.tree_laws.specs.JoinLaws.{old_or, old_up, old_anc}
use Rattle.layer.specs.Layout.{entry_stride}
use Rattle.layer.specs.Row.{row_of}
use Rattle.layer.specs.Sound.{Link}
use Rattle.layer.specs.SoundLaws.{says_link, says_sound}
use Rattle.layer.specs.Layer.{Layer, upper}
use Rattle.layer.specs.Entries.{Entry, absent, highest}
use Rattle.join_laws.proofs.JoinedLaws.{upper_alone}
use Rattle.join_laws.proofs.Trees.{own_trees, uppers}
use Rattle.renumber.specs.Entries.{above_of}
use Rattle.renumber.specs.EntriesLaws.{length_above}
use Rattle.join.specs.Copied.{copies_links}
use Rattle.join.specs.CopiedLaws.{are_links_lem}
use Rattle.layer.specs.Checked.{is_row}
use Rattle.renumber_exact.specs.Columns.{Holds}
use Rattle.renumber_exact.specs.EntryColumns.{above_entry}
use Rattle.renumber.specs.NumberWalk.{Written}
use Rattle.join_exact.specs.Site.{LeafOf}
use Rattle.join_exact.proofs.Site.{Site}
use Rattle.join_exact.proofs.JoinExact.{between, upper_in, joins, joined}

-- an entry is none or an ancestor
entry_over : {t : Layer} {i x b : ℕ} → Entry t i x b → (b ≡ none) ⊎ Anc (upper t) b x
entry_over (absent h) = inl refl
entry_over (highest g o h) = inr g

module _ {c k : ℕ} {p : Written} {t : Layer} {z v : ℕ} (s : Site c p k t z v) (w u deep : ℕ) (q : LeafOf t v w u deep) where
  abbrev n : ℕ
  n = t.count

  abbrev m : Layer
  m = between s w u deep q

  -- the upper row of a row, where it has one, was there before
  upper_old : (h : ℕ) → h < n → upper m h ≢ none → Old n z (upper m h)
  upper_old h i d = elim (old_or z h i) [
    | inl o ↦
        let e : upper m h ≡ upper t h = ((joined s w u deep q).old h o).same_upper in
        rw e (old_up (uppers (own_trees s.was)) (upper_alone s.was s.alone) h o (λ y. d (e ∙ y)))
    | inr e ↦ rw (e, (joins s w u deep q).under) (upper_in s w u deep q)
  ]

  -- and lies below the count
  in_count : (y : ℕ) → Old n z y → y < k
  unfolding is_row
  in_count y o = (says_get (says_and (says_ltb y k) (λ _. says_sound k (row_of p.fields p.numbers y))) (s.good y o)).0

  entry_link : (y i : ℕ) → Old n z y → i < entry_stride → Link k (t.entry y i)
  entry_link y i o b = elim (entry_over (s.was.six y o.inside i b)) [
    | inl e ↦ inl e
    | inr g ↦ inr (in_count (t.entry y i) (old_anc (uppers (own_trees s.was)) (upper_alone s.was s.alone) o g))
  ]

  holds : Holds entry_stride c p.ancestors
  holds = record { most = s.long.most; long = s.long.ancestors }

  above_link : (y i : ℕ) → (y ≡ none) ⊎ Old n z y → i < entry_stride → Link k (get_or (above_of p.ancestors y) i 0)
  above_link y i (inl e) b = inl (above_entry holds y i (inl e) b ∙ rw e refl)
  above_link y i (inr o) b =
      rw (above_entry holds y i (inr (omega (arith, o.inside, s.room))) b, ne_eqb y none (λ e. omega (arith, o.inside, s.room, s.long.most)), s.entry y i o b) (entry_link y i o b)

  pub copies : (h : ℕ) → h < n → copies_links p.ancestors k (upper m h) ≡ true
  unfolding copies_links
  copies h i =
      are_links_lem k (above_of p.ancestors (upper m h))
      (λ j b. says_true (says_link k (get_or (above_of p.ancestors (upper m h)) j 0))
      (above_link (upper m h) j (over (ℕ_discrete (upper m h) none)) (omega (arith, length_above p.ancestors (upper m h)))))
    where
      over : Dec (upper m h ≡ none) → (upper m h ≡ none) ⊎ Old n z (upper m h)
      over (yes e) = inl e
      over (no d) = inr (upper_old h i d)
