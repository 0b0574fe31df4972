-- What is proved of `Exact`.
use Rattle.std.specs.Prelude.{◌≡◌, List, ℕ, ◌≤◌, length}
use Rattle.std.proofs.Common.{arith}
use Rattle.laws.specs.Test.{Says, says_map, says_and, says_leb}
use Rattle.layer.specs.Numbered.{Numbered}
use Rattle.table.specs.Table.{Table}
use Rattle.table.specs.Capacity.{node_limit}
use Rattle.table.specs.Rules.{Lines, Labels, Faces}
use Rattle.table.proofs.Rules.{numbered, rules_of}
use Rattle.tally.specs.Layout.{tally_length}
use Rattle.tally.specs.Tally.{Tallied}
use Rattle.tally_exact.proofs.TestExact.{says_tallied}
use Rattle.layer_laws.proofs.Numbered.{stored_tree}
use Rattle.inspect_laws.proofs.Numbered.{says_numbered}
use Rattle.inspect_lines_laws.proofs.LinesLaws.{says_lines}
use Rattle.inspect_lines_laws.proofs.Bounded.{says_labels, says_faces}
use Rattle.inspect.specs.Inspects.{inspects}
use Rattle.inspect_exact.specs.Exact.{Passes}

pub inspect_exact : (capacity : ℕ) (t : Table) (w : List ℕ) → capacity ≤ node_limit → length w ≡ tally_length → Says (Passes capacity t w) (inspects capacity t w)
unfolding inspects
inspect_exact capacity t w h e = says_map to (λ p. let r = p.rules in (r.one.trees.count, (numbered r h, (r.one.lines, (r.one.labels, (r.one.faces, p.tally))))))
    (says_and (says_leb t.layer.count capacity) (λ few.
    says_and (says_numbered t.layer (omega arith)) (λ r.
    says_and (says_lines t (stored_tree r)) (λ _.
    says_and (says_labels t) (λ _.
    says_and (says_faces t) (λ _. says_tallied t.label t.layer.count w e))))))
  where
    to : (t.layer.count ≤ capacity) × (Numbered t.layer × (Lines t × (Labels t × (Faces t × Tallied t.label t.layer.count w)))) → Passes capacity t w
    to s =
        let trees = s.1.0.one in
        record {
          rules = rules_of record {
            trees = record { count = s.0; inside = trees.inside; depth = trees.depth; children = trees.children };
            lines = s.1.1.0;
            labels = s.1.1.1.0;
            faces = s.1.1.1.1.0;
          } s.1.0;
          tally = s.1.1.1.1.1;
        }
