-- How the answers of the rules make up the inspection of a layer.
use Rattle.std.specs.Prelude.{◌≡◌, Bool, true, false, List, ℕ, ◌≤◌}
use Rattle.std.proofs.Common.{sym}
use Rattle.laws.specs.Test.{says_false, says_get, says_not_get, all_to}
use Rattle.layer.specs.Layer.{layer_of}
use Rattle.layer.specs.Numbered.{row_limit}
use Rattle.layer_laws.proofs.Bounds.{end_small}
use Rattle.inspect_laws.specs.Trees.{are_trees}
use Rattle.inspect_laws.specs.Compressed.{is_compressed}
use Rattle.inspect_laws.proofs.CompressedLaws.{upper_forest, says_compressed}
use Rattle.inspect_laws.specs.SetSizes.{are_set_sizes, are_small_children}
use Rattle.inspect_laws.proofs.SetSizes.{says_set_sizes}
use Rattle.inspect_laws.specs.Nested.{are_nested}
use Rattle.inspect_laws.specs.Entries.{are_entries}
use Rattle.inspect_laws.specs.Numbered.{is_numbered}
use Rattle.inspect_laws.proofs.Numbered.{says_numbered}
use Rattle.inspect_tree.specs.Columns.{field_layer, span_layer, entry_layer}
use Rattle.inspect_tree.specs.Stored.{Stored, stored_forest}
use Rattle.inspect_spans.specs.Grouped.{Positive}
use Rattle.inspect_spans.specs.Small.{is_small, Small, says_small, small_of}

pub set_positive : (f : List ℕ) (n : ℕ) → are_set_sizes (field_layer f n) ≡ true → Positive f n
set_positive f n e = record { each = λ x l. (says_get (says_set_sizes (field_layer f n)) e x l).positive }

-- where the trees and rule 2 hold and every span ends within the limit, so does that of each compressed parent
pub small_known : (f m : List ℕ) (n : ℕ) → Stored f n → is_compressed (field_layer f n) ≡ true → all_to (is_small (span_layer f m 0)) n ≡ true → Small f m n
small_known f m n s two e =
    let tree = stored_forest s in
    let uppers = upper_forest (field_layer f n) tree (says_get (says_compressed (field_layer f n) tree) two).upper in
    small_of f m n e uppers.inside

-- the answer of the first rule that fails, or of the last
module _ (f m a : List ℕ) (n : ℕ) where
  -- where the trees are numbered, every span ends within the limit
  pub stop_small : n ≤ row_limit → all_to (is_small (span_layer f m 0)) n ≡ false → false ≡ is_numbered (layer_of f m a n)
  stop_small few e = sym (says_false (says_numbered (layer_of f m a n) few) (λ r. says_not_get (says_small (span_layer f m 0) n) e (end_small r)))

  pub stop_one : are_trees (field_layer f n) ≡ false → false ≡ is_numbered (layer_of f m a n)
  unfolding is_numbered are_trees
  stop_one e = rw e

  module _ (one : are_trees (field_layer f n) ≡ true) where
    pub stop_two : is_compressed (field_layer f n) ≡ false → false ≡ is_numbered (layer_of f m a n)
    unfolding is_numbered are_trees is_compressed
    stop_two e = rw (one, e)

    module _ (two : is_compressed (field_layer f n) ≡ true) where
      pub stop_three : are_set_sizes (field_layer f n) ≡ false → false ≡ is_numbered (layer_of f m a n)
      unfolding is_numbered are_trees is_compressed are_set_sizes
      stop_three e = rw (one, two, e)

      module _ (three : are_set_sizes (field_layer f n) ≡ true) where
        pub stop_four : are_small_children (field_layer f n) ≡ false → false ≡ is_numbered (layer_of f m a n)
        unfolding is_numbered are_trees is_compressed are_set_sizes are_small_children
        stop_four e = rw (one, two, three, e)

        module _ (four : are_small_children (field_layer f n) ≡ true) where
          pub stop_five : are_nested (span_layer f m n) ≡ false → false ≡ is_numbered (layer_of f m a n)
          unfolding is_numbered are_trees is_compressed are_set_sizes are_small_children are_nested
          stop_five e = rw (one, two, three, four, e)

          pub all_six : {r : Bool} → are_nested (span_layer f m n) ≡ true → r ≡ are_entries (entry_layer f a n) → r ≡ is_numbered (layer_of f m a n)
          unfolding is_numbered are_trees is_compressed are_set_sizes are_small_children are_nested are_entries
          all_six e h = rw (one, two, three, four, e, h)
