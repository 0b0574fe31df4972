-- How the answers of its passes make up inspection.
use Rattle.std.specs.Prelude.{◌≡◌, refl, Bool, true, false, ◌&&◌, List, ℕ, ◌≤◌}
use Rattle.laws.specs.Test.{says_get}
use Rattle.tree_laws.specs.Ancestor.{none}
use Rattle.layer.specs.Layer.{layer_of}
use Rattle.table.specs.declared.state.State.{State}
use Rattle.table.specs.Parts.{Parts}
use Rattle.table.specs.State.{is_standing}
use Rattle.table.proofs.StateLaws.{says_standing}
use Rattle.table.specs.Table.{table_of}
use Rattle.tally.specs.Test.{is_tallied}
use Rattle.inspect_laws.specs.Trees.{are_trees}
use Rattle.inspect_laws.specs.Numbered.{is_numbered}
use Rattle.inspect_tree.specs.Stored.{Stored}
use Rattle.inspect_lines_laws.specs.Lines.{are_lines}
use Rattle.inspect_lines_laws.specs.Bounded.{are_bounded, are_labels, are_faces}
use Rattle.inspect_lines.specs.Columns.{field_table, level_table}
use Rattle.inspect_tally.specs.Counts.{labels}
use Rattle.inspect.specs.Inspects.{inspects}

-- the trees of a layer that passes are right
pub numbered_stored : (f m a : List ℕ) (n : ℕ) → n ≤ none → is_numbered (layer_of f m a n) ≡ true → Stored f n
unfolding is_numbered are_trees
numbered_stored f m a n few e = record { small = few; trees = left _ _ e }
  where
    left : (x y : Bool) → (x && y) ≡ true → x ≡ true
    left true y h = refl
    left false y h = h

-- the answer of the first pass that fails, or of the last
module _ (p : Parts) (w : List ℕ) (s : State) (capacity : ℕ) where
  pub stop_count : is_standing capacity s ≡ false → false ≡ inspects capacity (table_of p s.count) w
  unfolding inspects is_standing
  stop_count e = rw e

  module _ (a : is_standing capacity s ≡ true) where
    pub count_most : s.count ≤ capacity
    count_most = says_get (says_standing capacity s) a

    pub stop_layer : is_numbered (layer_of p.fields p.numbers p.ancestors s.count) ≡ false → false ≡ inspects capacity (table_of p s.count) w
    unfolding inspects is_standing
    stop_layer e = rw (a, e)

    module _ (b : is_numbered (layer_of p.fields p.numbers p.ancestors s.count) ≡ true) where
      pub stop_lines : are_lines (level_table p.fields p.levels s.count) ≡ false → false ≡ inspects capacity (table_of p s.count) w
      unfolding inspects is_standing are_lines
      stop_lines e = rw (a, b, e)

      module _ (l : are_lines (level_table p.fields p.levels s.count) ≡ true) where
        pub stop_labels : are_labels (field_table p.fields s.count) ≡ false → false ≡ inspects capacity (table_of p s.count) w
        unfolding inspects is_standing are_lines are_bounded
        stop_labels e = rw (a, b, l, e)

        module _ (k : are_labels (field_table p.fields s.count) ≡ true) where
          pub stop_faces : are_faces (field_table p.fields s.count) ≡ false → false ≡ inspects capacity (table_of p s.count) w
          unfolding inspects is_standing are_lines are_bounded
          stop_faces e = rw (a, b, l, k, e)

          pub by_tally : {r : Bool} → are_faces (field_table p.fields s.count) ≡ true → r ≡ is_tallied (labels p.fields) s.count w → r ≡ inspects capacity (table_of p s.count) w
          unfolding inspects is_standing are_lines are_bounded
          by_tally e h = rw (a, b, l, k, e, h)
