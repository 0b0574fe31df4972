-- What is proved of `Placed`.
use Rattle.std.specs.Prelude.{ℕ}
use Rattle.std.proofs.Common.{ap, ◌∙◌}
use Rattle.span.specs.Numbers.{p_of, end_of}
use Rattle.renumber_laws.specs.Column.{put}
use Rattle.renumber_laws.proofs.Column.{put_same, put_other}
use Rattle.renumber_laws.specs.Numbers.{Numbers, placed}
use Rattle.renumber_laws.specs.Placed.{Placed}

pub placed_is : (x u a k : ℕ) (c : Numbers) → Placed c (placed x u a k c) x u a k
unfolding placed
placed_is x u a k c = record {
  upper = put_same c.upper x u;
  size = put_same c.size x k;
  set_size = put_same c.set_size x k;
  start = put_same c.start x a;
  next_free = put_same (put c.next_free u (end_of a k)) x (p_of a k);
  entry = λ i. ap (λ (f : ℕ → ℕ). f i) (put_same c.entry x _);
  above = λ d. put_other (put c.next_free u (end_of a k)) x (p_of a k) u d ∙ put_same c.next_free u (end_of a k);
  others = λ y d. record {
    upper = put_other c.upper x u y d;
    size = put_other c.size x k y d;
    set_size = put_other c.set_size x k y d;
    start = put_other c.start x a y d;
    entry = λ i. ap (λ (f : ℕ → ℕ). f i) (put_other c.entry x _ y d);
  };
  next_frees = λ y d e. put_other (put c.next_free u (end_of a k)) x (p_of a k) y d ∙ put_other c.next_free u (end_of a k) y e;
}
