-- The order of starts (01, "Renumbering head v"): "going down the path: at each path row first the row itself unless it is the apex, then its light
-- children in order of arrival". The spans of compressed siblings are apart, so this is the order of the spans too.
use Rattle.std.specs.Prelude.{◌≡◌, ◌≢◌, ℕ, ◌<◌}
use Rattle.tree_laws.specs.Ancestor.{none, Anc}
use Rattle.tree_laws.specs.Compressed.{PathChild}
use Rattle.layer.specs.Layer.{Layer, parent, path, start}

-- w is a light child of v: the path of v, as d has it, does not go on into w
pub record LightChild (m d : Layer) (v w : ℕ) : Type 0 where
  pub in_use : w < m.count
  pub over : parent m w ≡ v
  pub light : w ≢ path d v

-- x arrived after its sibling w: the child links list children in order of arrival, each new one last, so the next links lead from w to x
pub record ArrivedAfter (m : Layer) (w x : ℕ) : Type 0 where
  pub other : w ≢ x
  pub leads : Anc (λ y. (m.row y).next) x w

-- at each row v at or below h; what belongs to a path row comes before the next row of the path, and so before all that belongs to that
pub record StartOrder (m d : Layer) (h : ℕ) : Type 0 where
  -- a row that is no apex comes before its children, the light ones and the next row of the path
  pub row_first : (v w : ℕ) → v < m.count → Anc (parent m) h v → PathChild (parent m) (path d) v → w < m.count → parent m w ≡ v → start d v < start d w
  -- light children come in order of arrival
  pub arrival : (v w x : ℕ) → v < m.count → Anc (parent m) h v → LightChild m d v w → LightChild m d v x → ArrivedAfter m w x → start d w < start d x
  -- and before the next row of the path
  pub path_last : (v w : ℕ) → v < m.count → Anc (parent m) h v → LightChild m d v w → path d v ≢ none → start d w < start d (path d v)
