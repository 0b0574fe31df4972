-- The walk for numbers places the head and all rows below it, each once and after its parent.
use Rattle.std.specs.Prelude.{◌≡◌, ◌≢◌, List, ℕ, ◌<◌, length}
use Rattle.tree_laws.specs.Ancestor.{Anc}
use Rattle.tree_laws.specs.ChildLinks.{Member}
use Rattle.tree_laws.specs.Size.{size}
use Rattle.renumber_laws.specs.Numbers.{Numbers}
use Rattle.renumber_laws.specs.Placed.{Earlier, Done}

-- after the walk by these links all rows at and below h are placed, as many as there are: each after its parent, siblings in the order of the links
pub record AllPlaced (parent path next rank : ℕ → ℕ) (n h : ℕ) (b d : Numbers) : Type 0 where
  pub list : List ℕ
  pub done : Done parent path n h b list d
  pub every : (x : ℕ) → x < n → Anc parent h x → Member list x
  pub long : length list ≡ size parent rank n h
  pub below : (x : ℕ) → x < n → Anc parent h x → x ≢ h → Earlier list (parent x) x
  pub along : (w x : ℕ) → w < n → Anc parent h w → w ≢ h → Anc next x w → w ≢ x → Earlier list w x
