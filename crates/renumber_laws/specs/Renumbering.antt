-- What the renumbering of a head begins with (01, "Renumbering head v"), and the layer that its two walks leave, the walk for sizes and then the walk
-- for numbers.
use Rattle.std.specs.Prelude.{ℕ, ◌<◌}
use Rattle.tree_laws.specs.Compressed.{Apex}
use Rattle.layer.specs.Layer.{Layer, parent, upper, path, size, set_size, start, next_free}
use Rattle.layer.specs.StoredTree.{ChildLinks}
use Rattle.layer.specs.Numbered.{Each}
use Rattle.join_laws.specs.Trees.{OwnTrees}
use Rattle.renumber_laws.specs.Sizes.{Sizing}
use Rattle.renumber_laws.specs.Numbers.{Numbers}

-- what the walk for sizes begins with
abbrev pub sizes_of : Layer → Sizing
sizes_of m = record { size = size m; path = path m; met = 0 }

-- what the walk for numbers begins with, the sizes being those that the first walk left
abbrev pub numbers_of : Layer → (ℕ → ℕ) → Numbers
numbers_of m sizes = record { upper = upper m; size = sizes; set_size = set_size m; start = start m; next_free = next_free m; entry = m.entry }

-- layer m with other path links and numbers
abbrev pub with_columns : Layer → (ℕ → ℕ) → Numbers → Layer
with_columns m paths c = record {
  count = m.count;
  row = λ x. record {
    parent = (m.row x).parent;
    first = (m.row x).first;
    last = (m.row x).last;
    next = (m.row x).next;
    upper = c.upper x;
    path = paths x;
    size = c.size x;
    set_size = c.set_size x;
    depth = (m.row x).depth;
    start = c.start x;
    next_free = c.next_free x;
  };
  entry = c.entry;
}

-- what a renumbering needs: the trees of m are well shaped, child links list the children, and h is an apex
pub record Renumberable (m : Layer) (h : ℕ) : Type 0 where
  pub trees : OwnTrees m
  pub children : Each m (ChildLinks m)
  pub in_use : h < m.count
  pub apex : Apex (parent m) (path m) h
