-- 01's order of compressed siblings as a relation: "going down the path: at each path row first the row itself unless it is the apex, then its light
-- children in order of arrival".
use Rattle.std.specs.Prelude.{◌≢◌, ℕ}
use Rattle.tree_laws.specs.Ancestor.{Anc}
use Rattle.tree_laws.specs.Compressed.{PathChild}
use Rattle.layer.specs.Layer.{Layer, parent, path}
use Rattle.join_laws.specs.StartOrder.{LightChild, ArrivedAfter}

-- row x belongs to the path row v: it is v itself, unless v is the apex, or a light child of v
pub data BelongsTo (d : Layer) (v : ℕ) : ℕ → Type 0 where
  itself : PathChild (parent d) (path d) v → BelongsTo d v v
  light : {w : ℕ} → LightChild d d v w → BelongsTo d v w

-- x comes before y: x is the path row that y is a light child of; or both are light children of one row, and y arrived later; or y belongs to a row
-- further down the path
pub data Before (d : Layer) : ℕ → ℕ → Type 0 where
  row : {v w : ℕ} → PathChild (parent d) (path d) v → LightChild d d v w → Before d v w
  arrival : {v w x : ℕ} → LightChild d d v w → LightChild d d v x → ArrivedAfter d w x → Before d w x
  down : {v z x y : ℕ} → Anc (path d) z v → v ≢ z → BelongsTo d v x → BelongsTo d z y → Before d x y
