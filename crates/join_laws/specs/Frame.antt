-- What a join changes, row by row: outside the head's rows only the places that 01 names, and the head's rows whole.
use Rattle.std.specs.Prelude.{◌≡◌, ◌≢◌, ℕ, ◌+◌, ◌*◌, ◌≤◌, ◌<◌}
use Rattle.tree_laws.specs.Ancestor.{none, Anc}
use Rattle.tree_laws.specs.Join.{Old}
use Rattle.span.specs.Constants.{growth_up, growth_down}
use Rattle.layer.specs.Layer.{Layer, upper, size, set_size, next_free}
use Rattle.layer.specs.Spans.{end}
use Rattle.join_laws.specs.Joined.{SameNode, LinksAfter, SamePlace}
use Rattle.join_laws.specs.Renumbered.{Below, rows}

-- every other row keeps its node, and its child links but for v and its last child; outside the head's rows each keeps its place too, sizes grow by 1
-- above the head, and next free moves at the head's compressed parent
pub record Frame (t d : Layer) (z v h : ℕ) : Type 0 where
  pub count : d.count ≡ t.count
  pub node : (x : ℕ) → Old t.count z x → SameNode t d x
  pub links : (x : ℕ) → Old t.count z x → LinksAfter t d v z x
  pub place : (x : ℕ) → Old t.count z x → ¬ Below d h x → SamePlace t d x
  pub size_above : (x : ℕ) → Old t.count z x → ¬ Below d h x → Anc (upper d) x h → size d x ≡ size t x + 1
  pub size_rest : (x : ℕ) → Old t.count z x → ¬ Below d h x → ¬ Anc (upper d) x h → size d x ≡ size t x
  pub next_free_above : upper d h ≢ none → next_free d (upper d h) ≡ end d h
  pub next_free_rest : (x : ℕ) → Old t.count z x → ¬ Below d h x → x ≢ upper d h → next_free d x ≡ next_free t x

-- the head's rows: z is one of them, their number is the head's size, and each has its size as set size; another head had outgrown its own
pub record HeadRows (t d : Layer) (z h : ℕ) : Type 0 where
  pub in_use : h < d.count
  pub new : Below d h z
  pub number : rows d h ≡ size d h
  pub set : (x : ℕ) → x < d.count → Below d h x → set_size d x ≡ size d x
  pub size_old : h ≢ z → size d h ≡ size t h + 1
  pub size_new : h ≡ z → size d h ≡ 1
  pub outgrown : h ≢ z → growth_up * set_size t h ≤ growth_down * size d h
