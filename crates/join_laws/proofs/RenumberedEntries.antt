-- A layer that is ready, its head renumbered, has rule 6.
use Rattle.std.specs.Prelude.{◌≢◌, ℕ, ◌<◌}
use Rattle.tree_laws.specs.Ancestor.{none, Anc, Forest}
use Rattle.tree_laws.specs.AncestorLaws.{trans, climb, anc_in, dec_anc}
use Rattle.layer.specs.Layout.{entry_stride}
use Rattle.layer.specs.Layer.{Layer, depth, upper}
use Rattle.layer.specs.Entries.{Entry}
use Rattle.layer.specs.EntriesLaws.{entry_through_lem}
use Rattle.join_laws.specs.Renumbered.{Below, Renumbered}
use Rattle.join_laws.specs.Ready.{Ready}
use Rattle.join_laws.proofs.Trees.{uppers, stored_anc}
use Rattle.join_laws.proofs.EntryLaws.{entry_copy}
use Rattle.join_laws.proofs.RenumberedLaws.{tree, renumbered_trees}

module _ {m d : Layer} {h : ℕ} (r : Ready m h) (k : Renumbered m d h) where
  chains : Forest (upper d) (depth m) m.count
  chains = uppers (renumbered_trees r k)

  -- a row outside keeps its chain
  entry_outside : {i x e : ℕ} → x < m.count → ¬ Below m h x → Entry m i x e → Entry d i x e
  entry_outside {i} {x} l o = entry_copy (λ a q. k.built.upper_out a (inside q) (outside q)) (λ a q. (k.numbers_out a (inside q) (outside q)).same_set_size)
    where
      inside : {a : ℕ} → Anc (upper m) a x → a < m.count
      inside q = anc_in (uppers r.trees) l q

      outside : {a : ℕ} → Anc (upper m) a x → ¬ Below m h a
      outside q b = o (trans b (stored_anc r.trees l q))

  -- below the head each entry comes from that of the compressed parent
  entry_below : (i x : ℕ) → i < entry_stride → x < m.count → Below m h x → (upper d x ≢ none → Entry d i (upper d x) (d.entry (upper d x) i))
      → Entry d i x (d.entry x i)
  entry_below i x b l q up = rw (k.filled x l q i b) (entry_through_lem d chains i x l up)

  entry_from : (i x : ℕ) → i < entry_stride → x < m.count → (upper d x ≢ none → Entry d i (upper d x) (d.entry (upper d x) i)) → Entry d i x (d.entry x i)
  entry_from i x b l up = elim (dec_anc (tree r k) h x l) [
    | yes q ↦ entry_below i x b l q up
    | no o ↦ rw ((k.numbers_out x l o).same_entry i b) (entry_outside l o ((r.row x l o).entries i b))
  ]

  pub renumbered_entries : (i : ℕ) → i < entry_stride → (x : ℕ) → x < m.count → Entry d i x (d.entry x i)
  renumbered_entries i b = climb chains (λ x. Entry d i x (d.entry x i))
      (λ x l e. entry_from i x b l (λ n. absurd (n e))) (λ x l _ e. entry_from i x b l (λ _. e))
