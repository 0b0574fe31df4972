-- Rows that stand alone, each a tree by itself (02: a first node; the nodes of a linked tree before they join).
use Rattle.std.specs.Prelude.{◌≡◌, Bool, true, false, ◌≢◌, ℕ, ◌≤◌, ◌<◌}
use Rattle.tree_laws.specs.Ancestor.{none}
use Rattle.layer.specs.Numbered.{row_limit}
use Rattle.layer.specs.Layout.{entry_stride}
use Rattle.layer.specs.Layer.{Layer, parent, depth, upper, path, size, set_size, start, next_free}
use Rattle.layer.specs.Spans.{reach}
use Rattle.layer.specs.Entries.{entry_from}

-- row x is a tree by itself, and numbered as one
pub record Lone (d : Layer) (x : ℕ) : Type 0 where
  pub parent_none : parent d x ≡ none
  pub depth_zero : depth d x ≡ 0
  pub first_none : (d.row x).first ≡ none
  pub last_none : (d.row x).last ≡ none
  pub next_none : (d.row x).next ≡ none
  pub upper_none : upper d x ≡ none
  pub path_none : path d x ≡ none
  pub size_one : size d x ≡ 1
  pub set_size_one : set_size d x ≡ 1
  pub start_zero : start d x ≡ 0
  pub next_free_one : next_free d x ≡ 1
  pub filled : (i : ℕ) → i < entry_stride → d.entry x i ≡ entry_from x (reach d x) i none

-- row x is the same in both
pub record Kept (t d : Layer) (x : ℕ) : Type 0 where
  pub same_parent : parent d x ≡ parent t x
  pub same_depth : depth d x ≡ depth t x
  pub same_first : (d.row x).first ≡ (t.row x).first
  pub same_last : (d.row x).last ≡ (t.row x).last
  pub same_next : (d.row x).next ≡ (t.row x).next
  pub same_upper : upper d x ≡ upper t x
  pub same_path : path d x ≡ path t x
  pub same_size : size d x ≡ size t x
  pub same_set_size : set_size d x ≡ set_size t x
  pub same_start : start d x ≡ start t x
  pub same_next_free : next_free d x ≡ next_free t x
  pub same_entry : (i : ℕ) → i < entry_stride → d.entry x i ≡ t.entry x i

-- the rows that the test picks stand alone in d, the others are as in t; whole trees are picked, and all rows past the count of t
pub record Parted (t d : Layer) (lone : ℕ → Bool) : Type 0 where
  pub most : d.count ≤ row_limit
  pub more : t.count ≤ d.count
  pub old : (x : ℕ) → x < d.count → lone x ≡ false → x < t.count
  pub alone : (x : ℕ) → x < d.count → lone x ≡ true → Lone d x
  pub kept : (x : ℕ) → x < t.count → lone x ≡ false → Kept t d x
  pub above : (x : ℕ) → x < t.count → lone x ≡ false → parent t x ≢ none → lone (parent t x) ≡ false
  pub below : (x : ℕ) → x < t.count → parent t x ≢ none → lone (parent t x) ≡ false → lone x ≡ false
