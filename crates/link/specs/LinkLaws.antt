-- A link from what each call leaves.
use Rattle.std.proofs.Math.Path.{◌≡◌, refl}
use Rattle.std.specs.Prelude.{Result, Ok, Err, List, ℕ, length}
use Rattle.std.proofs.Common.{arith}
use Rattle.table.specs.declared.refusal.Refusal.{Refusal}
use Rattle.table.specs.declared.state.State.{State}
use Rattle.table.specs.Parts.{Parts}
use Rattle.growth_store.specs.Store.{stored}
use Rattle.tally.specs.Count.{moved}
use Rattle.link_plan.specs.declared.Trees.{Trees}
use Rattle.link_plan.specs.Check.{link_checked}
use Rattle.link_store.specs.JoinedTree.{joined_tree}
use Rattle.link.specs.Link.{served_by, linked_by, link_by, LinkCall}

module _ (p : Parts) (w scratch : List ℕ) (s : State) (x v door : ℕ) {k : Result Trees Refusal} (e : k ≡ link_checked p w (length scratch) s x v door) where
  pub call_refused : {why : Refusal} → k ≡ Err why → LinkCall p p w w scratch scratch s x v door (Err why)
  unfolding link_by linked_by
  call_refused h = record { outcome = rw (← e, h) refl; long = refl; unchanged = λ n z. refl }

  pub call_served : {t : Trees} {rows : ℕ} {p' : Parts} {w' scratch' : List ℕ} → k ≡ Ok t → stored p' rows ≡ joined_tree p (length scratch) s.count t.linked x v door
      → w' ≡ moved w 0 door → length scratch' ≡ length scratch → LinkCall p p' w w' scratch scratch' s x v door (Ok (record { rows = rows; head = t.receiving }))
  unfolding link_by linked_by served_by
  call_served h i j l = record {
    outcome = rw (← e, h, ← i, j) refl;
    long = l;
    unchanged = λ n z. let y : ◌≡◌ {A = ℕ} 0 1 = cc in absurd (omega arith);
  }
