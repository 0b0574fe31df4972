-- The head (01, "The head is the highest row of that chain with 5s ≥ 6σ").
use Rattle.std.specs.Prelude.{◌≢◌, ℕ, ◌*◌, ◌≤◌, ◌<◌}
use Rattle.tree_laws.specs.Ancestor.{Anc}
use Rattle.span.specs.Constants.{growth_up, growth_down}
use Rattle.layer.specs.Layer.{Layer, upper, size, set_size}

-- row x has outgrown its set size
abbrev pub Due : Layer → ℕ → Type 0
Due m x = growth_up * set_size m x ≤ growth_down * size m x

-- h is the highest row of the chain of z that is due
pub record Head (m : Layer) (z h : ℕ) : Type 0 where
  pub over : Anc (upper m) h z
  pub due : Due m h
  pub calm : (a : ℕ) → Anc (upper m) a h → a ≢ h → growth_down * size m a < growth_up * set_size m a
