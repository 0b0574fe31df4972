-- The lent parts of a layer: their lengths, the layer that they stand for, and what of them is not the layer's.
use Rattle.std.specs.Prelude.{◌≡◌, List, ℕ, ◌*◌, ◌≤◌, ◌<◌, length}
use Rattle.layer.specs.Layout.{field_stride, number_stride, entry_stride, depth_place}
use Rattle.layer.specs.Row.{field_at}
use Rattle.layer.specs.Layer.{Layer, layer_of}
use Rattle.layer.specs.Numbered.{row_limit}
use Rattle.renumber.specs.NumberWalk.{Written}

-- the parts hold c rows
pub record Long (c : ℕ) (w : Written) : Type 0 where
  pub most : c ≤ row_limit
  pub fields : length w.fields ≡ c * field_stride
  pub numbers : length w.numbers ≡ c * number_stride
  pub ancestors : length w.ancestors ≡ c * entry_stride

-- n of them are in use
abbrev pub layer_in : Written → ℕ → Layer
layer_in w n = layer_of w.fields w.numbers w.ancestors n

-- the fields of each row past those of the layer are the same
abbrev pub SameRest : List ℕ → List ℕ → Type 0
SameRest f g = (y k : ℕ) → depth_place < k → k < field_stride → field_at g y k ≡ field_at f y k
