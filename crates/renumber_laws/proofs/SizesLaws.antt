-- What each store of the walk for sizes leaves, read back, and how many rows the walk has met.
use Rattle.std.specs.Prelude.{◌≡◌, Bool, true, false, ◌≢◌, ℕ, ◌+◌, ◌-◌, ◌≤◌, ◌<◌}
use Rattle.std.proofs.Math.Path.{refl}
use Rattle.std.proofs.Common.{◌∙◌, inl, inr, arith}
use Rattle.laws.specs.Test.{pick}
use Rattle.tree_laws.specs.Ancestor.{none}
use Rattle.tree_laws.specs.Siblings.{Kin, nil, node, count, In, Distinct, empty, apart}
use Rattle.tree_laws.specs.Walk.{sweep}
use Rattle.renumber_laws.proofs.Column.{put_same, put_other}
use Rattle.renumber_laws.specs.Loop.{Through, empty as none_left, around}
use Rattle.renumber_laws.specs.Sizes.{Sizing, linked, opened, counted, is_light, kept_heavy, closed, is_larger, offered, size_visit}

-- What each store leaves, read back

module _ (x : ℕ) (s : Sizing) where
  pub opened_size : (opened x s).size x ≡ s.met
  unfolding opened
  opened_size = put_same s.size x s.met

  pub opened_path : (opened x s).path x ≡ none
  unfolding opened
  opened_path = put_same s.path x none

  pub opened_met : (opened x s).met ≡ s.met + 1
  unfolding opened
  opened_met = refl

  pub opened_size_other : (y : ℕ) → y ≢ x → (opened x s).size y ≡ s.size y
  unfolding opened
  opened_size_other = put_other s.size x s.met

  pub opened_path_other : (y : ℕ) → y ≢ x → (opened x s).path y ≡ s.path y
  unfolding opened
  opened_path_other = put_other s.path x none

-- only the path link of v may have changed
pub record OnlyPath (v : ℕ) (s d : Sizing) : Type 0 where
  pub size : (y : ℕ) → d.size y ≡ s.size y
  pub path : (y : ℕ) → y ≢ v → d.path y ≡ s.path y
  pub met : d.met ≡ s.met

only_path : (b : Bool) (v c : ℕ) (s : Sizing) → OnlyPath v s (pick b (linked v c s) s)
unfolding linked
only_path true v c s = record { size = λ y. refl; path = put_other s.path v c; met = refl }
only_path false v c s = record { size = λ y. refl; path = λ y d. refl; met = refl }

path_there : (b : Bool) (v c : ℕ) (s : Sizing) → (pick b (linked v c s) s).path v ≡ pick b c (s.path v)
unfolding linked
path_there true v c s = put_same s.path v c
path_there false v c s = refl

kept_only : (x : ℕ) (s : Sizing) → OnlyPath x s (kept_heavy x s)
unfolding kept_heavy
kept_only x s = only_path (is_light s x (s.path x)) x none s

pub kept_path : (x : ℕ) (s : Sizing) → (kept_heavy x s).path x ≡ pick (is_light s x (s.path x)) none (s.path x)
unfolding kept_heavy
kept_path x s = path_there (is_light s x (s.path x)) x none s

pub offered_only : (v x : ℕ) (s : Sizing) → OnlyPath v s (offered v x s)
unfolding offered
offered_only v x s = only_path (is_larger s x (s.path v)) v x s

pub offered_path : (v x : ℕ) (s : Sizing) → (offered v x s).path v ≡ pick (is_larger s x (s.path v)) x (s.path v)
unfolding offered
offered_path v x s = path_there (is_larger s x (s.path v)) v x s

module _ (x : ℕ) (s : Sizing) where
  pub counted_size : (counted x s).size x ≡ s.met - s.size x
  unfolding counted
  counted_size = put_same s.size x (s.met - s.size x)

  pub counted_size_other : (y : ℕ) → y ≢ x → (counted x s).size y ≡ s.size y
  unfolding counted
  counted_size_other = put_other s.size x (s.met - s.size x)

  pub counted_path : (y : ℕ) → (counted x s).path y ≡ s.path y
  unfolding counted
  counted_path y = refl

  pub closed_size : (closed x s).size x ≡ s.met - s.size x
  unfolding closed
  closed_size = (kept_only x (counted x s)).size x ∙ counted_size

  pub closed_size_other : (y : ℕ) → y ≢ x → (closed x s).size y ≡ s.size y
  unfolding closed
  closed_size_other y d = (kept_only x (counted x s)).size y ∙ counted_size_other y d

  pub closed_path_other : (y : ℕ) → y ≢ x → (closed x s).path y ≡ s.path y
  unfolding closed
  closed_path_other y d = (kept_only x (counted x s)).path y d ∙ counted_path y

  pub closed_met : (closed x s).met ≡ s.met
  unfolding closed counted
  closed_met = (kept_only x (counted x s)).met

-- How many rows the walk has met

pub left_met : (parent : ℕ → ℕ) (x : ℕ) (s : Sizing) → (offered (parent x) x (closed x s)).met ≡ s.met
left_met parent x s = (offered_only (parent x) x (closed x s)).met ∙ closed_met x s

sweep_met : (parent : ℕ → ℕ) (f : Kin) (s : Sizing) → (sweep (size_visit parent) f s).met ≡ s.met + count f
unfolding size_visit
sweep_met parent nil s = omega arith
sweep_met parent (node r kids rest) s =
    let b : Sizing = sweep (size_visit parent) kids (opened r s) in
    omega (arith, sweep_met parent rest (offered (parent r) r (closed r b)), left_met parent r b, sweep_met parent kids (opened r s), opened_met r s)

sweep_size : (parent : ℕ → ℕ) (f : Kin) (s : Sizing) (y : ℕ) → ¬ In f y → (sweep (size_visit parent) f s).size y ≡ s.size y
unfolding size_visit
sweep_size parent nil s y o = refl
sweep_size parent (node r kids rest) s y o =
    let b : Sizing = sweep (size_visit parent) kids (opened r s) in
    sweep_size parent rest (offered (parent r) r (closed r b)) y (λ z. o (inr (inr z)))
    ∙ (offered_only (parent r) r (closed r b)).size y
    ∙ closed_size_other r b y (λ e. o (inl e))
    ∙ sweep_size parent kids (opened r s) y (λ z. o (inr (inl z)))
    ∙ opened_size_other r s y (λ e. o (inl e))

-- going down into a row, the walk has met fewer rows than there are; going up out of a row, it has met some since it went down
pub through_sizes : (parent : ℕ → ℕ) {f : Kin} (s : Sizing) (n : ℕ) → Distinct f → s.met + count f ≤ n
    → Through (size_visit parent) (λ x t. t.met < n) (λ x t. t.size x < t.met) f s
unfolding size_visit
through_sizes parent s n empty h = none_left
through_sizes parent s n (apart {r = r} {kids} {rest} new alone two x y) h =
    let b : Sizing = sweep (size_visit parent) kids (opened r s) in
    let met : b.met ≡ s.met + 1 + count kids = omega (arith, sweep_met parent kids (opened r s), opened_met r s) in
    around {t = s} (omega arith) (through_sizes parent (opened r s) n x (omega (arith, opened_met r s)))
    (omega (arith, sweep_size parent kids (opened r s) r new, opened_size r s))
    (through_sizes parent (offered (parent r) r (closed r b)) n y (omega (arith, left_met parent r b)))
