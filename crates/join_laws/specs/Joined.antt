-- A row that stands alone joins a tree (01, "A new leaf is a path by itself"; 02, "They join the receiving tree as leaves"): what every row holds
-- before the head is renumbered. A new leaf is a new row that stands alone and joins.
use Rattle.std.specs.Prelude.{◌≡◌, ◌⊎◌, ◌≢◌, ℕ, ◌+◌, ◌<◌}
use Rattle.tree_laws.specs.Ancestor.{none, Anc}
use Rattle.tree_laws.specs.Join.{Old, Alone}
use Rattle.tree_laws.specs.Compressed.{UpperStep}
use Rattle.layer.specs.Layout.{entry_stride}
use Rattle.layer.specs.Layer.{Layer, parent, depth, upper, path, size, set_size, start, next_free}

-- row x keeps its place in the stored tree
pub record SameNode (t m : Layer) (x : ℕ) : Type 0 where
  pub same_parent : parent m x ≡ parent t x
  pub same_depth : depth m x ≡ depth t x

-- row x keeps its child links, v and its last child aside, which get the row z as their last and next
pub record LinksAfter (t m : Layer) (v z x : ℕ) : Type 0 where
  pub first_given : x ≡ v → (t.row x).first ≡ none → (m.row x).first ≡ z
  pub first_kept : (x ≢ v) ⊎ ((t.row x).first ≢ none) → (m.row x).first ≡ (t.row x).first
  pub last_given : x ≡ v → (m.row x).last ≡ z
  pub last_kept : x ≢ v → (m.row x).last ≡ (t.row x).last
  pub next_given : x ≡ (t.row v).last → (m.row x).next ≡ z
  pub next_kept : x ≢ (t.row v).last → (m.row x).next ≡ (t.row x).next

-- the row z: a leaf of the stored tree under v
pub record NewNode (t m : Layer) (z v : ℕ) : Type 0 where
  pub parent_is : parent m z ≡ v
  pub depth_is : depth m z ≡ depth t v + 1
  pub first_none : (m.row z).first ≡ none
  pub last_none : (m.row z).last ≡ none
  pub next_none : (m.row z).next ≡ none

-- the stored trees of t, but that the lone row z comes under v
pub record Planted (t m : Layer) (z v : ℕ) : Type 0 where
  pub count : m.count ≡ t.count
  pub alone : Alone (parent t) t.count z
  pub over : Old t.count z v
  pub old : (x : ℕ) → Old t.count z x → SameNode t m x
  pub links : (x : ℕ) → Old t.count z x → LinksAfter t m v z x
  pub new : NewNode t m z v

-- row x keeps its place in the compressed tree, its start, its set size and its entries
pub record SamePlace (t m : Layer) (x : ℕ) : Type 0 where
  pub same_path : path m x ≡ path t x
  pub same_upper : upper m x ≡ upper t x
  pub same_set_size : set_size m x ≡ set_size t x
  pub same_start : start m x ≡ start t x
  pub same_entry : (i : ℕ) → i < entry_stride → m.entry x i ≡ t.entry x i

-- z is a path by itself, of size 1 and set size 0; sizes grow by 1 along the chain of upper rows above it
pub record Joined (t m : Layer) (z v : ℕ) : Type 0 where
  pub planted : Planted t m z v
  pub old : (x : ℕ) → Old t.count z x → SamePlace t m x
  pub next_free_old : (x : ℕ) → Old t.count z x → next_free m x ≡ next_free t x
  pub path_new : path m z ≡ none
  pub upper_new : UpperStep (parent m) (path m) (upper m) z
  pub size_new : size m z ≡ 1
  pub set_size_new : set_size m z ≡ 0
  pub size_chain : (x : ℕ) → Old t.count z x → Anc (upper m) x z → size m x ≡ size t x + 1
  pub size_rest : (x : ℕ) → Old t.count z x → ¬ Anc (upper m) x z → size m x ≡ size t x
