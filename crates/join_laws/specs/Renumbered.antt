-- Renumbering a head h (01, "Renumbering head v"): layer d is layer m with the paths, sizes, spans and entries at and below h made anew.
use Rattle.std.specs.Prelude.{◌≡◌, ◌≢◌, ℕ, ◌+◌, ◌*◌, ◌≤◌, ◌<◌}
use Rattle.laws.specs.Fourth.{fourth}
use Rattle.tree_laws.specs.Ancestor.{none, Anc}
use Rattle.tree_laws.specs.Compressed.{UpperStep}
use Rattle.tree_laws.specs.Size.{size as size_in, child_sum}
use Rattle.span.specs.Constants.{width}
use Rattle.layer.specs.Layout.{entry_stride}
use Rattle.layer.specs.Layer.{Layer, parent, depth, upper, path, size, set_size, start, next_free}
use Rattle.layer.specs.Spans.{p, end, reach, Apart}
use Rattle.layer.specs.Entries.{entry_through}
use Rattle.join_laws.specs.Joined.{SameNode}
use Rattle.join_laws.specs.StartOrder.{StartOrder}

-- x lies at or below h in the stored tree
abbrev pub Below : Layer → ℕ → ℕ → Type 0
Below m h x = Anc (parent m) h x

-- how many rows lie at or below x in the stored tree
abbrev pub rows : Layer → ℕ → ℕ
rows m x = size_in (parent m) (depth m) m.count x

-- row x keeps its child links
pub record SameLinks (m d : Layer) (x : ℕ) : Type 0 where
  pub same_first : (d.row x).first ≡ (m.row x).first
  pub same_last : (d.row x).last ≡ (m.row x).last
  pub same_next : (d.row x).next ≡ (m.row x).next

-- renumbering leaves the stored tree as it is
pub record SameTree (m d : Layer) : Type 0 where
  pub count : d.count ≡ m.count
  pub node : (x : ℕ) → x < m.count → SameNode m d x
  pub links : (x : ℕ) → x < m.count → SameLinks m d x

-- paths and compressed parents: as before outside, anew at and below h from true sizes
pub record Rebuilt (m d : Layer) (h : ℕ) : Type 0 where
  pub path_out : (x : ℕ) → x < m.count → ¬ Below m h x → path d x ≡ path m x
  pub upper_out : (x : ℕ) → x < m.count → ¬ Below m h x → upper d x ≡ upper m x
  pub upper_head : upper d h ≡ upper m h
  pub in_use : (v : ℕ) → v < m.count → Below m h v → path d v ≢ none → path d v < m.count
  pub link : (v : ℕ) → v < m.count → Below m h v → path d v ≢ none → parent m (path d v) ≡ v
  pub heavy : (v : ℕ) → v < m.count → Below m h v → path d v ≢ none → rows m v < 2 * rows m (path d v)
  pub light : (w : ℕ) → w < m.count → parent m w ≢ none → Below m h (parent m w) → path d (parent m w) ≢ w → 2 * rows m w ≤ rows m (parent m w)
  pub upper : (x : ℕ) → x < m.count → Below m h x → x ≢ h → UpperStep (parent m) (path d) (upper d) x

-- row x keeps its sizes, its start and its entries
pub record SameNumbers (m d : Layer) (x : ℕ) : Type 0 where
  pub same_size : size d x ≡ size m x
  pub same_set_size : set_size d x ≡ set_size m x
  pub same_start : start d x ≡ start m x
  pub same_entry : (i : ℕ) → i < entry_stride → d.entry x i ≡ m.entry x i

-- the entries of x are made from those of its compressed parent
abbrev pub Filled : Layer → ℕ → Type 0
Filled d x = (i : ℕ) → i < entry_stride → d.entry x i ≡ entry_through d.entry (upper d) (reach d) x i

-- and the numbers: as before outside, the next free number of the head's compressed parent aside; the head's span begins there; below, σ = s, and the
-- spans of compressed children lie side by side from p on, down the path
pub record Renumbered (m d : Layer) (h : ℕ) : Type 0 where
  pub tree : SameTree m d
  pub built : Rebuilt m d h
  -- outside
  pub numbers_out : (x : ℕ) → x < m.count → ¬ Below m h x → SameNumbers m d x
  pub next_free_out : (x : ℕ) → x < m.count → ¬ Below m h x → x ≢ upper m h → next_free d x ≡ next_free m x
  -- the head
  pub start_head : upper m h ≢ none → start d h ≡ next_free m (upper m h)
  pub start_root : upper m h ≡ none → start d h ≡ 0
  pub next_free_head : upper m h ≢ none → next_free d (upper m h) ≡ end d h
  -- at and below the head
  pub sizes : (v : ℕ) → v < m.count → Below m h v → size d v ≡ size_in (upper d) (depth m) m.count v
  pub set_sizes : (v : ℕ) → v < m.count → Below m h v → set_size d v ≡ size d v
  pub low : (w : ℕ) → w < m.count → Below m h w → w ≢ h → p d (upper d w) ≤ start d w
  pub high : (w : ℕ) → w < m.count → Below m h w → w ≢ h → end d w ≤ next_free d (upper d w)
  pub apart : (v w : ℕ) → v < m.count → w < m.count → Below m h v → Below m h w → v ≢ h → w ≢ h → v ≢ w → upper d v ≡ upper d w → Apart d v w
  pub order : StartOrder m d h
  pub next_frees : (u : ℕ) → u < m.count → Below m h u
      → next_free d u ≡ p d u + width * child_sum (upper d) (λ w. fourth (set_size d w)) m.count u
  pub filled : (x : ℕ) → x < m.count → Below m h x → Filled d x
