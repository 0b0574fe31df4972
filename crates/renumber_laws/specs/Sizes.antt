-- The first walk of a renumbering, in order of arrival: the size of each row by counting the rows met, and the largest child of each row,
-- kept as the next row of its path where it is heavy (01, "Renumbering head v").
use Rattle.std.specs.Prelude.{Bool, ◌||◌, ◌&&◌, not, ℕ, ◌+◌, ◌-◌, ◌*◌, eqb, ltb, leb}
use Rattle.laws.specs.Test.{pick}
use Rattle.tree_laws.specs.Ancestor.{none}
use Rattle.tree_laws.specs.Siblings.{Kin}
use Rattle.tree_laws.specs.Walk.{Visit, sweep}
use Rattle.renumber_laws.specs.Column.{put}

-- what the walk stores: sizes, path links, and how many rows it has met. While a row is open, its size holds how many were met before it,
-- and its path link the largest of its children that are done
pub record Sizing : Type 0 where
  pub size : ℕ → ℕ
  pub path : ℕ → ℕ
  pub met : ℕ

-- the path link of x is c
unfoldable pub linked : ℕ → ℕ → Sizing → Sizing
linked x c s = record { size = s.size; path = put s.path x c; met = s.met }

-- going down into x
unfoldable pub opened : ℕ → Sizing → Sizing
opened x s = record { size = put s.size x s.met; path = put s.path x none; met = s.met + 1 }

-- the size of x is the number of rows met since
unfoldable pub counted : ℕ → Sizing → Sizing
counted x s = record { size = put s.size x (s.met - s.size x); path = s.path; met = s.met }

-- the child c of x, if any, is light
abbrev pub is_light : Sizing → ℕ → ℕ → Bool
is_light s x c = not (eqb c none) && leb (2 * s.size c) (s.size x)

-- the largest child of x is dropped where it is light
unfoldable pub kept_heavy : ℕ → Sizing → Sizing
kept_heavy x s = pick (is_light s x (s.path x)) (linked x none s) s

-- going up out of x: its size and its path link
unfoldable pub closed : ℕ → Sizing → Sizing
closed x s = kept_heavy x (counted x s)

-- x is larger than the child c, or c is none
abbrev pub is_larger : Sizing → ℕ → ℕ → Bool
is_larger s x c = eqb c none || ltb (s.size c) (s.size x)

-- x is offered to its parent v as the largest child so far
unfoldable pub offered : ℕ → ℕ → Sizing → Sizing
offered v x s = pick (is_larger s x (s.path v)) (linked v x s) s

-- what the walk does at each row below the head
unfoldable pub size_visit : (ℕ → ℕ) → Visit Sizing
size_visit parent = record { enter = opened; leave = λ x s. offered (parent x) x (closed x s) }

-- the whole walk of the head h and the rows f below it; the head is offered to no row
unfoldable pub size_pass : (ℕ → ℕ) → ℕ → Kin → Sizing → Sizing
size_pass parent h f s = closed h (sweep (size_visit parent) f (opened h s))
