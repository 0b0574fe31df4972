-- A whole growth (01, "Stored tree, paths and spans"): the new row stands alone, joins, and the head of its chain is renumbered.
use Rattle.std.specs.Prelude.{◌≡◌, ℕ, ◌<◌, pos}
use Rattle.layer.specs.Layer.{Layer}
use Rattle.table.specs.Table.{Table}
use Rattle.join_laws.specs.JoinStep.{JoinStep}
use Rattle.join_laws.specs.Extended.{Extended}
use Rattle.growth_laws.specs.Growth.{Growth, Named, parent_of, label_of, label_after, face_of, face_after, level_of, root_after}

-- row x keeps its label, its face and its level
pub record SameMarks (t d : Table) (x : ℕ) : Type 0 where
  pub same_label : d.label x ≡ t.label x
  pub same_face : d.face x ≡ t.face x
  pub same_level : d.level x ≡ t.level x

-- table t becomes table d by growth g, which renumbers head h; the layer `alone` has the new row standing alone
pub record Grown (t d : Table) (g : Growth) (h : ℕ) : Type 0 where
  pub named : Named t g
  pub alone : Layer
  pub extended : Extended t.layer alone
  pub step : JoinStep alone d.layer t.layer.count (parent_of g) h
  pub labels : (x : ℕ) → x < t.layer.count → d.label x ≡ label_after t g x
  pub label_new : d.label t.layer.count ≡ label_of g
  pub faces : (x : ℕ) → x < t.layer.count → d.face x ≡ face_after t g x
  pub face_new : d.face t.layer.count ≡ face_of g
  pub levels : (x : ℕ) → x < t.layer.count → d.level x ≡ t.level x
  pub level_new : d.level t.layer.count ≡ level_of t g
  pub roots : (x : ℕ) → x < t.layer.count → d.root x ≡ root_after t g x

-- table t becomes table d by a first node: a row more, which stands alone, of label 0, front and level 0, its own root
pub record Started (t d : Table) : Type 0 where
  pub extended : Extended t.layer d.layer
  pub marks : (x : ℕ) → x < t.layer.count → SameMarks t d x
  pub label_new : d.label t.layer.count ≡ 0
  pub face_new : d.face t.layer.count ≡ 0
  pub level_new : d.level t.layer.count ≡ pos 0
  pub root_new : d.root t.layer.count ≡ t.layer.count
  pub roots : (x : ℕ) → x < t.layer.count → d.root x ≡ t.root x
