-- What is proved of `SetSizes`.
use Rattle.std.specs.Prelude.{ℕ, ◌+◌, ◌*◌}
use Rattle.laws.specs.Test.{Says, says_map, says_and, says_leb, says_ltb, says_eqb, says_all}
use Rattle.tree_laws.specs.Ancestor.{none}
use Rattle.span.specs.Constants.{growth_up, growth_down}
use Rattle.layer.specs.Layer.{Layer, upper, size, set_size}
use Rattle.layer.specs.CompressedTree.{SetSize, SmallChild}
use Rattle.layer.specs.Numbered.{Each}
use Rattle.inspect_laws.proofs.Choice.{says_unless}
use Rattle.inspect_laws.specs.SetSizes.{are_set_sizes, are_small_children, is_set_size, is_small_child}

says_set_size : (t : Layer) (x : ℕ) → Says (SetSize t x) (is_set_size t x)
says_set_size t x = says_map
    (λ h. record { positive = h.0; most = h.1.0; growth = h.1.1 })
    (λ s. (s.positive, (s.most, s.growth)))
    (says_and (says_leb 1 (set_size t x)) (λ _.
    says_and (says_leb (set_size t x) (size t x)) (λ _. says_ltb (growth_down * size t x) (growth_up * set_size t x))))

pub says_set_sizes : (t : Layer) → Says (Each t (SetSize t)) (are_set_sizes t)
unfolding are_set_sizes
says_set_sizes t = says_all (is_set_size t) t.count (λ x l. says_set_size t x)

pub says_small_children : (t : Layer) → Says (Each t (SmallChild t)) (are_small_children t)
unfolding are_small_children
says_small_children t = says_all (is_small_child t) t.count
    (λ x l. says_unless (says_eqb (upper t x) none) (λ _. says_leb (2 * size t x + set_size t (upper t x)) (2 * size t (upper t x))))
