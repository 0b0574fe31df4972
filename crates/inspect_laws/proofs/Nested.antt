-- What is proved of `Nested`.
use Rattle.std.specs.Prelude.{◌≡◌, ◌&&◌, ◌≢◌, ℕ, ◌-◌, ◌*◌}
use Rattle.laws.specs.Fourth.{fourth}
use Rattle.laws.specs.Test.{Says, says_map, says_and, says_or, says_leb, says_eqb, says_all, all_to}
use Rattle.tree_laws.specs.Ancestor.{none}
use Rattle.tree_laws.specs.Size.{child_sum}
use Rattle.layer.specs.Layer.{Layer, parent, upper, set_size, start, next_free}
use Rattle.layer.specs.Spans.{p, q, end, Apart, Inside, used_left, used_right}
use Rattle.layer.specs.Numbered.{Nested}
use Rattle.inspect_laws.proofs.Choice.{says_unless, says_if}
use Rattle.inspect_laws.specs.Nested.{are_apart, are_nested, has_room, is_dense, is_first_start, is_inside}

-- What the tests say -----------------------------------------------------------

says_inside : (t : Layer) (x : ℕ) → Says (Inside t x) (is_inside t x)
says_inside t x = says_map
    (λ h. record { low = λ d. (h d).0; high = λ d. (h d).1 })
    (λ i d. (i.low d, i.high d))
    (says_unless (says_eqb (upper t x) none) (λ _.
    says_and (says_leb (p t (upper t x)) (start t x)) (λ _. says_leb (end t x) (next_free t (upper t x)))))

pub says_apart : (t : Layer) (v w : ℕ) → Says (v ≢ w → upper t v ≢ none → upper t v ≡ upper t w → Apart t v w) (are_apart t v w)
says_apart t v w =
    says_unless (says_eqb v w) (λ _.
    says_unless (says_eqb (upper t v) none) (λ _.
    says_if (says_eqb (upper t v) (upper t w)) (λ _. says_or (says_leb (end t v) (start t w)) (says_leb (end t w) (start t v)))))

says_first_start : (t : Layer) (x : ℕ) → Says (parent t x ≡ none → start t x ≡ 0) (is_first_start t x)
says_first_start t x = says_if (says_eqb (parent t x) none) (λ _. says_eqb (start t x) 0)

pub says_nested : (t : Layer) → Says (Nested t) (are_nested t)
unfolding are_nested
says_nested t = says_map
    (λ h. record { first = h.0; inside = λ x l. (h.1.0 x l).0; room = λ x l. (h.1.0 x l).1; apart = h.1.1.0; dense = h.1.1.1 })
    (λ n. (n.first, (λ x l. (n.inside x l, n.room x l), (n.apart, n.dense))))
    (says_and (says_all (is_first_start t) t.count (λ x l. says_first_start t x)) (λ _.
    says_and (says_all (λ x. is_inside t x && has_room t x) t.count (λ x l. says_and (says_inside t x) (λ _. says_leb (next_free t x) (q t x)))) (λ _.
    says_and (says_all (λ v. all_to (are_apart t v) t.count) t.count (λ v l. says_all (are_apart t v) t.count (λ w k. says_apart t v w))) (λ _.
    says_all (is_dense t) t.count (λ x l.
    says_leb (used_left * (next_free t x - p t x)) (used_right * child_sum (upper t) (λ w. fourth (set_size t w)) t.count x))))))
