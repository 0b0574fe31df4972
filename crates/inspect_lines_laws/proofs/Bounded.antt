-- What is proved of `Bounded`.
use Rattle.std.specs.Prelude.{◌&&◌, ℕ}
use Rattle.laws.specs.Test.{Says, says_map, says_and, says_leb, says_eqb, says_all}
use Rattle.tree_laws.specs.Ancestor.{none}
use Rattle.layer.specs.Layer.{parent}
use Rattle.table.specs.Table.{Table}
use Rattle.table.specs.Rules.{label_limit, face_limit, Bounded, Labels, Faces}
use Rattle.inspect_laws.proofs.Choice.{says_if}
use Rattle.inspect_lines_laws.specs.Bounded.{are_bounded, are_faces, are_labels, is_root_zero, is_within}

pub says_bounded : (t : Table) (column : ℕ → ℕ) (limit : ℕ) → Says (Bounded t column limit) (are_bounded t column limit)
unfolding are_bounded
says_bounded t column limit = says_map
    (λ h. record { most = λ x l. (h x l).0; root = λ x l. (h x l).1 })
    (λ r x l. (r.most x l, r.root x l))
    (says_all (λ x. is_within column limit x && is_root_zero t column x) t.layer.count (λ x l.
    says_and (says_leb (column x) limit) (λ _.
    says_if (says_eqb (parent t.layer x) none) (λ _. says_eqb (column (t.root x)) 0))))

pub says_labels : (t : Table) → Says (Labels t) (are_labels t)
says_labels t = says_bounded t t.label label_limit

pub says_faces : (t : Table) → Says (Faces t) (are_faces t)
says_faces t = says_bounded t t.face face_limit
