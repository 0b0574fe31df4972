-- What the fields hold with a new leaf attached: its own row, the links to it, and one more in each size of its chain.
use Rattle.std.specs.Prelude.{◌≡◌, ◌≢◌, List, ℕ, ◌+◌, ◌<◌, eqb}
use Rattle.laws.specs.Test.{pick}
use Rattle.tree_laws.specs.Ancestor.{none, Anc}
use Rattle.layer.specs.Layout.{field_stride, parent_place, first_place, last_place, next_place, upper_place, path_place, size_place, set_size_place, depth_place}
use Rattle.layer.specs.Row.{field_at}
use Rattle.renumber_laws.specs.Column.{put}
use Rattle.renumber_exact.specs.Lent.{SameRest}
use Rattle.renumber_exact.specs.Columns.{Holds}

-- a field of an old row that a new leaf leaves as it was
pub record Quiet (k : ℕ) : Type 0 where
  pub within : k < field_stride
  pub first : k ≢ first_place
  pub last : k ≢ last_place
  pub next : k ≢ next_place
  pub size : k ≢ size_place

-- fields g are fields f with the leaf in row n under v, after its sibling w if any, below the upper row u; the other rows are those that are not n
pub record Attached (up : ℕ → ℕ) (c : ℕ) (f : List ℕ) (n v w u depth : ℕ) (g : List ℕ) : Type 0 where
  pub holds : Holds field_stride c g
  -- the old rows
  pub kept : (y k : ℕ) → y ≢ n → Quiet k → field_at g y k ≡ field_at f y k
  pub first : (y : ℕ) → y < c → y ≢ n → field_at g y first_place ≡ put (λ z. field_at f z first_place) v (pick (eqb w none) n (field_at f v first_place)) y
  pub last : (y : ℕ) → y < c → y ≢ n → field_at g y last_place ≡ put (λ z. field_at f z last_place) v n y
  pub next : (y : ℕ) → y < c → y ≢ n → field_at g y next_place ≡ put (λ z. field_at f z next_place) w n y
  pub size_chain : u ≢ none → (y : ℕ) → y ≢ n → Anc up y u → field_at g y size_place ≡ field_at f y size_place + 1
  pub size_rest : (y : ℕ) → y ≢ n → (u ≢ none → ¬ Anc up y u) → field_at g y size_place ≡ field_at f y size_place
  -- the new row
  pub parent_new : field_at g n parent_place ≡ v
  pub first_new : field_at g n first_place ≡ none
  pub last_new : field_at g n last_place ≡ none
  pub next_new : field_at g n next_place ≡ none
  pub upper_new : field_at g n upper_place ≡ u
  pub path_new : field_at g n path_place ≡ none
  pub size_new : field_at g n size_place ≡ 1
  pub set_size_new : field_at g n set_size_place ≡ 0
  pub depth_new : field_at g n depth_place ≡ depth
  -- what is not the layer's
  pub rest : SameRest f g
