-- The second walk of a renumbering, light children in order of arrival and the heavy child last: compressed parents, sizes, spans and
-- ancestor entries (01, "Renumbering head v").
use Rattle.std.specs.Prelude.{ℕ, eqb}
use Rattle.laws.specs.Test.{pick}
use Rattle.tree_laws.specs.Ancestor.{none}
use Rattle.tree_laws.specs.Compressed.{is_apex}
use Rattle.tree_laws.specs.HeavyLast.{arranged}
use Rattle.tree_laws.specs.Siblings.{Kin}
use Rattle.tree_laws.specs.Walk.{sweep, on_entry}
use Rattle.span.specs.Numbers.{p_of, end_of, reach_of}
use Rattle.layer.specs.Entries.{entry_from, entry_above}
use Rattle.renumber_laws.specs.Column.{put}

-- the columns that the walk stores
pub record Numbers : Type 0 where
  pub upper : ℕ → ℕ
  pub size : ℕ → ℕ
  pub set_size : ℕ → ℕ
  pub start : ℕ → ℕ
  pub next_free : ℕ → ℕ
  pub entry : ℕ → ℕ → ℕ

-- row x, of size k, is placed below u with its span from a on; the next free number of u moves to its end
unfoldable pub placed : (x u a k : ℕ) → Numbers → Numbers
placed x u a k c = record {
  upper = put c.upper x u;
  size = put c.size x k;
  set_size = put c.set_size x k;
  start = put c.start x a;
  next_free = put (put c.next_free u (end_of a k)) x (p_of a k);
  entry = put c.entry x (λ i. entry_from x (reach_of k) i (entry_above c.entry u i));
}

-- where the span of the head begins: at the next free number of its compressed parent, at 0 where there is none
unfoldable pub head_start : Numbers → ℕ → ℕ
head_start c h = pick (eqb (c.upper h) none) 0 (c.next_free (c.upper h))

-- the head is placed
unfoldable pub head_placed : ℕ → Numbers → Numbers
head_placed h c = placed h (c.upper h) (head_start c h) (c.size h) c

-- the apex of the path that v lies on, where the compressed parent of v is known
unfoldable pub top_of : (parent path : ℕ → ℕ) → Numbers → ℕ → ℕ
top_of parent path c v = pick (is_apex parent path v) v (c.upper v)

-- the set size of x: 1 where it is the path child of its parent, else its size
unfoldable pub size_of : (parent path : ℕ → ℕ) → Numbers → ℕ → ℕ
size_of parent path c x = pick (eqb (path (parent x)) x) 1 (c.size x)

-- row x is placed below the apex u
unfoldable pub numbered_below : (parent path : ℕ → ℕ) → (u x : ℕ) → Numbers → Numbers
numbered_below parent path u x c = placed x u (c.next_free u) (size_of parent path c x) c

-- the visit of a row below the head: it is placed below the apex of its parent's path
unfoldable pub numbered : (parent path : ℕ → ℕ) → ℕ → Numbers → Numbers
numbered parent path x c = numbered_below parent path (top_of parent path c (parent x)) x c

-- the head h, and then the rows f below it with the heavy child last at each row
unfoldable pub number_pass : (parent path : ℕ → ℕ) → ℕ → Kin → Numbers → Numbers
number_pass parent path h f c = sweep (on_entry (numbered parent path)) (arranged path h f) (head_placed h c)
