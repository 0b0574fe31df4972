-- What holds of a layer with a new row in it, before its head is renumbered: the rules hold outside the head's rows, and the head is due.
use Rattle.std.specs.Prelude.{◌≡◌, ◌≢◌, ℕ, ◌≤◌, ◌<◌}
use Rattle.tree_laws.specs.Ancestor.{none}
use Rattle.tree_laws.specs.Compressed.{Apex}
use Rattle.layer.specs.Layer.{Layer, parent, upper, path, start, next_free}
use Rattle.layer.specs.CompressedTree.{SetSize, SmallChild}
use Rattle.layer.specs.Spans.{p, Apart, Inside, Dense}
use Rattle.layer.specs.Entries.{Entries}
use Rattle.layer.specs.Numbered.{Each}
use Rattle.join_laws.specs.Head.{Due}
use Rattle.join_laws.specs.Renumbered.{Below}
use Rattle.join_laws.specs.Trees.{OwnTrees}

-- rules 3 to 6 at one row; that next free is at most q follows
pub record Settled (m : Layer) (x : ℕ) : Type 0 where
  pub set_size : SetSize m x
  pub small : SmallChild m x
  pub inside : Inside m x
  pub dense : Dense m x
  pub first : parent m x ≡ none → start m x ≡ 0
  pub entries : Entries m x

pub record Ready (m : Layer) (h : ℕ) : Type 0 where
  pub trees : OwnTrees m
  pub in_use : h < m.count
  pub apex : Apex (parent m) (path m) h
  pub due : Due m h
  pub small : SmallChild m h
  pub own : upper m h ≢ none → p m (upper m h) ≤ next_free m (upper m h)
  pub row : Each m (λ x. ¬ Below m h x → Settled m x)
  pub apart : Each m (λ v. Each m (λ w. ¬ Below m h v → ¬ Below m h w → v ≢ w → upper m v ≢ none → upper m v ≡ upper m w → Apart m v w))
