-- What is proved of `Numbered`.
use Rattle.std.specs.Prelude.{◌≤◌}
use Rattle.std.proofs.Common.{arith}
use Rattle.laws.specs.Test.{Says, says_map, says_and}
use Rattle.tree_laws.specs.Ancestor.{Forest}
use Rattle.tree_laws.specs.DepthLaws.{depth_forest}
use Rattle.layer.specs.Layer.{Layer, parent, depth}
use Rattle.layer.specs.Numbered.{row_limit, StoredTrees, Numbered}
use Rattle.inspect_laws.proofs.TreesLaws.{trees_depths, says_trees}
use Rattle.inspect_laws.proofs.CompressedLaws.{upper_forest, says_compressed}
use Rattle.inspect_laws.proofs.SetSizes.{says_set_sizes, says_small_children}
use Rattle.inspect_laws.proofs.Nested.{says_nested}
use Rattle.inspect_laws.proofs.EntriesLaws.{says_entries}
use Rattle.inspect_laws.specs.Numbered.{is_numbered}

pub says_numbered : (t : Layer) → t.count ≤ row_limit → Says (Numbered t) (is_numbered t)
unfolding is_numbered
says_numbered t small = says_map
    (λ r. record { one = r.0; two = r.1.0; three = r.1.1.0; four = r.1.1.1.0; five = r.1.1.1.1.0; six = r.1.1.1.1.1 })
    (λ r. (r.one, (r.two, (r.three, (r.four, (r.five, r.six))))))
    (says_and (says_trees row_limit t small (omega arith)) (λ one.
    says_and (says_compressed t (stored one)) (λ two.
    says_and (says_set_sizes t) (λ _.
    says_and (says_small_children t) (λ _.
    says_and (says_nested t) (λ _.
    says_entries t (upper_forest t (stored one) two.upper)))))))
  where
    stored : StoredTrees row_limit t → Forest (parent t) (depth t) t.count
    stored one = depth_forest (trees_depths (omega arith) one)
