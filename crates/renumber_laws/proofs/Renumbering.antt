-- What is proved of `Renumbering`.
use Rattle.tree_laws.specs.Siblings.{Links}
use Rattle.layer.specs.Layer.{Layer, parent}

-- the links that a walk in the order of the child links goes by
abbrev pub links_of : Layer → Links
links_of m = record { parent = parent m; first = λ x. (m.row x).first; next = λ x. (m.row x).next }
