-- Detaching from what each call leaves.
use Rattle.std.specs.Prelude.{◌≡◌, ◌≢◌, List, ℕ, suc}
use borrow.Author.Tests.{eq-eqb, ne_eqb}
use Rattle.tree_laws.specs.Ancestor.{none}
use Rattle.layer.specs.Layout.{parent_place, tree_place}
use Rattle.table.specs.Layout.{root_place}
use Rattle.layer.specs.Row.{field_at, entry_at}
use Rattle.layer.specs.Write.{with_field}
use Rattle.renumber.specs.NumberWalk.{Written, written}
use Rattle.join.specs.Lone.{lone_fields, lone_numbers, lone_entries}
use Rattle.link_store.specs.Detach.{kept_parent, kept_parents, turned_line, parted_row, parted_rows, turned_fields, detached_from}

-- stored parents kept

module _ (a : List ℕ) (tree : ℕ) where
  pub other_kept : (w : ℕ) (f : List ℕ) {e : ℕ} → e ≡ entry_at a w tree_place → e ≢ tree → f ≡ kept_parent a tree w f
  unfolding kept_parent
  other_kept w f {e} h d = rw (← h, ne_eqb e tree d)

  pub tree_kept : (w : ℕ) (f f' : List ℕ) {e p : ℕ} → e ≡ entry_at a w tree_place → e ≡ tree → p ≡ field_at f w parent_place → f' ≡ with_field f w root_place p
      → f' ≡ kept_parent a tree w f
  unfolding kept_parent
  tree_kept w f f' {e} h g i j = rw (← h, eq-eqb e tree g, ← i) j

  pub kept_on : (f f' : List ℕ) (m k w v : ℕ) → m ≡ suc k → v ≡ suc w → f' ≡ kept_parent a tree w f → kept_parents a tree m w f ≡ kept_parents a tree k v f'
  unfolding kept_parents
  kept_on f f' m k w v e g h = rw (e, g, ← h)

  pub kept_end : (f : List ℕ) (m w : ℕ) → m ≡ 0 → kept_parents a tree m w f ≡ f
  unfolding kept_parents
  kept_end f m w e = rw e

-- the line turned round

pub turn_top : (m k : ℕ) (f f' : List ℕ) (z under : ℕ) {p : ℕ} → m ≡ suc k → p ≡ field_at f z parent_place → p ≡ none → f' ≡ with_field f z root_place under
    → turned_line m f z under ≡ f'
unfolding turned_line
turn_top m k f f' z under {p} e h g i = rw (e, ← h, eq-eqb p none g, i)

pub turn_on : (m k : ℕ) (f f' : List ℕ) (z under : ℕ) {p : ℕ} → m ≡ suc k → p ≡ field_at f z parent_place → p ≢ none → f' ≡ with_field f z root_place under
    → turned_line m f z under ≡ turned_line k f' p z
unfolding turned_line
turn_on m k f f' z under {p} e h d i = rw (e, ← h, ne_eqb p none d, i)

pub turn_end : (m : ℕ) (f f' : List ℕ) (z under : ℕ) → m ≡ 0 → f' ≡ with_field f z root_place under → turned_line m f z under ≡ f'
unfolding turned_line
turn_end m f f' z under e i = rw (e, i)

-- rows that stand alone

module _ (tree : ℕ) where
  pub other_parted : (w : ℕ) (p : Written) {e : ℕ} → e ≡ entry_at p.ancestors w tree_place → e ≢ tree → p ≡ parted_row tree w p
  unfolding parted_row
  other_parted w p {e} h d = rw (← h, ne_eqb e tree d)

  pub tree_parted : (w : ℕ) (p : Written) (f m a : List ℕ) {e : ℕ} → e ≡ entry_at p.ancestors w tree_place → e ≡ tree → f ≡ lone_fields p.fields w
      → m ≡ lone_numbers p.numbers w → a ≡ lone_entries p.ancestors w → written f m a ≡ parted_row tree w p
  unfolding parted_row
  tree_parted w p f m a {e} h g i j k = rw (← h, eq-eqb e tree g, i, j, k)

  pub parted_on : (p q : Written) (m k w v : ℕ) → m ≡ suc k → v ≡ suc w → q ≡ parted_row tree w p → parted_rows tree m w p ≡ parted_rows tree k v q
  unfolding parted_rows
  parted_on p q m k w v e g h = rw (e, g, ← h)

  pub parted_end : (p : Written) (m w : ℕ) → m ≡ 0 → parted_rows tree m w p ≡ p
  unfolding parted_rows
  parted_end p m w e = rw e

-- all of it
pub detach_all : (p q : Written) (n tree x v : ℕ) (f g : List ℕ) → f ≡ kept_parents p.ancestors tree n 0 p.fields → g ≡ turned_line n f x v
    → q ≡ parted_rows tree n 0 (written g p.numbers p.ancestors) → q ≡ detached_from p n tree x v
unfolding detached_from turned_fields
detach_all p q n tree x v f g e h i = rw (← e, ← h) i
