-- The rows that a question draws on (01, "A question draws on at most 64 rows when some 64 rows or fewer exist such that all tables of that
-- capacity, filled with anything, that agree in those rows, count and root give the same outcome"). Roots stand in the rows now.
use Rattle.std.specs.Prelude.{◌≡◌, List, ◌∷◌, ◌++◌, ℕ, ◌≤◌, ◌<◌, Option, Some, None, length, get_or}
use Rattle.laws.specs.Test.{pick}
use Rattle.tree_laws.specs.Ancestor.{none}
use Rattle.layer.specs.Layout.{entry_stride, tree_place}
use Rattle.layer.specs.Row.{row_of, entry_at, field_at}
use Rattle.table.specs.declared.state.State.{State}
use Rattle.table.specs.Layout.{label_place, root_place}
use Rattle.table.specs.Parts.{Parts, level_at}
use Rattle.table.specs.Capacity.{Fits}
use Rattle.table.specs.Table.{Table}
use Rattle.ancestry.specs.declared.stored.Fork.{Fork}
use Rattle.query.specs.Line.{on_line_but}
use Rattle.query.specs.Question.{question}

-- the parts agree in row v
pub record SameRow (a b : Parts) (v : ℕ) : Type 0 where
  pub row : row_of a.fields a.numbers v ≡ row_of b.fields b.numbers v
  pub entry : (i : ℕ) → i < entry_stride → entry_at a.ancestors v i ≡ entry_at b.ancestors v i
  pub label : field_at a.fields v label_place ≡ field_at b.fields v label_place
  pub level : level_at a.levels v ≡ level_at b.levels v
  pub root : field_at a.fields v root_place ≡ field_at b.fields v root_place

-- at most k rows decide the outcome of a question in a table of capacity c
pub record DrawsOn (k c : ℕ) (a : Parts) (s : State) (x y : ℕ) : Type 0 where
  pub rows : List ℕ
  pub few : length rows ≤ k
  pub decide : (b : Parts) → Fits c b → ((i : ℕ) → i < length rows → get_or rows i 0 < c → SameRow a b (get_or rows i 0))
      → question b s x y ≡ question a s x y

-- the rows of a stored answer, and none where there is no answer
abbrev pub fork_or_none : Option Fork → Fork
fork_or_none (Some f) = f
fork_or_none None = record { nca = none; to_x = none; to_y = none }

-- by a stored answer that draws on the rows `drawn` beside those of its two nodes
module _ (t : Table) (stored : ℕ → ℕ → Option Fork) (drawn : ℕ → ℕ → List ℕ) where
  -- the node whose stored answer with the root is sought, where the line goes on below the stored answer f for x and y
  abbrev pub onward : ℕ → ℕ → Fork → ℕ
  onward x y f = pick (on_line_but t f.nca f.to_x) x y

  -- the rows of a plain answer from the stored answer f: its branches, and those of one more stored answer
  abbrev pub lower_rows : ℕ → ℕ → ℕ → Fork → List ℕ
  lower_rows r x y f = f.to_x ∷ f.to_y ∷ drawn (onward x y f) r

  -- the rows of a question in the tree of root r: those of x, y and the root, and of two stored answers
  abbrev pub tree_rows : ℕ → ℕ → ℕ → List ℕ
  tree_rows r x y = x ∷ y ∷ r ∷ (drawn x y ++ lower_rows r x y (fork_or_none (stored x y)))

  -- and with them the first row of the tree, which records that root
  abbrev pub rows_read : ℕ → ℕ → List ℕ
  rows_read x y = t.layer.entry x tree_place ∷ tree_rows (t.root (t.layer.entry x tree_place)) x y

-- so many, by a stored answer that draws on ten
abbrev pub most : ℕ
most = 26
