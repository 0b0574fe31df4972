-- The spans of a layer (01, "The span of a row follows from its start and its σ alone"; inspection's rule 5).
use Rattle.std.specs.Prelude.{ℕ, ◌-◌, ◌*◌, ◌≤◌, ◌≢◌, ◌⊎◌}
use Rattle.laws.specs.Fourth.{fourth}
use Rattle.tree_laws.specs.Ancestor.{none}
use Rattle.tree_laws.specs.Size.{child_sum}
use Rattle.span.specs.Numbers.{p_of, q_of, end_of, reach_of}
use Rattle.layer.specs.Layer.{Layer, upper, set_size, start, next_free}

abbrev pub p : Layer → ℕ → ℕ
p t x = p_of (start t x) (set_size t x)

abbrev pub q : Layer → ℕ → ℕ
q t x = q_of (start t x) (set_size t x)

abbrev pub end : Layer → ℕ → ℕ
end t x = end_of (start t x) (set_size t x)

-- q − p: three fourth powers of the set size
abbrev pub reach : Layer → ℕ → ℕ
reach t x = reach_of (set_size t x)

-- spans are half open: two that touch are disjoint
abbrev pub Apart : Layer → ℕ → ℕ → Type 0
Apart t v w = (end t v ≤ start t w) ⊎ (end t w ≤ start t v)

-- the span of a compressed child lies between p and next free of its compressed parent
pub record Inside (t : Layer) (x : ℕ) : Type 0 where
  pub low : upper t x ≢ none → p t (upper t x) ≤ start t x
  pub high : upper t x ≢ none → end t x ≤ next_free t (upper t x)

-- the numbers given away under x are few beside its compressed children
abbrev pub used_left : ℕ
used_left = 671

abbrev pub used_right : ℕ
used_right = 6480

abbrev pub Dense : Layer → ℕ → Type 0
Dense t x = used_left * (next_free t x - p t x) ≤ used_right * child_sum (upper t) (λ w. fourth (set_size t w)) t.count x
