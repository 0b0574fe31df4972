-- The highest row of a chain that is due is its head.
use Rattle.std.specs.Prelude.{ℕ, ◌*◌, ◌<◌}
use Rattle.std.proofs.Math.Decide.{dec_le}
use Rattle.std.proofs.Common.{arith}
use Rattle.laws.specs.Test.{Says, says_leb}
use Rattle.tree_laws.specs.Ancestor.{here, Forest}
use Rattle.tree_laws.specs.AncestorLaws.{trans, anc_in, antisym}
use Rattle.tree_laws.specs.Highest.{Highest, absent, highest}
use Rattle.span.specs.Constants.{growth_up, growth_down}
use Rattle.span.specs.Numbers.{outgrown}
use Rattle.layer.specs.Layer.{Layer, upper, size, set_size}
use Rattle.join_laws.specs.Head.{Due, Head}

pub says_due : (m : Layer) (x : ℕ) → Says (Due m x) (outgrown (size m x) (set_size m x))
says_due m x = says_leb (growth_up * set_size m x) (growth_down * size m x)

module _ (m : Layer) {rank : ℕ → ℕ} {n : ℕ} (t : Forest (upper m) rank n) where
  pub highest_head : {z h : ℕ} → z < n → Due m z → Highest (upper m) (Due m) z h → Head m z h
  highest_head {z} l y (absent f) = absurd (f z here y)
  highest_head {z} {h} l y (highest p q f) = record {
    over = p;
    due = q;
    calm = λ a r d. elim (dec_le (growth_up * set_size m a) (growth_down * size m a)) [
      | yes w ↦ absurd (d (antisym t (anc_in t l p) r (f a (trans r p) w)))
      | no w ↦ omega arith
    ];
  }
