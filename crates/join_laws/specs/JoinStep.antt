-- A lone row joins a tree: it comes under v as a leaf, the head of its chain is found and renumbered. The numbering is kept.
use Rattle.std.specs.Prelude.{ℕ}
use Rattle.layer.specs.Layer.{Layer}
use Rattle.join_laws.specs.Joined.{Joined}
use Rattle.join_laws.specs.Head.{Head}
use Rattle.join_laws.specs.Renumbered.{Renumbered}

-- by the lone row z coming under v, t becomes d, and head h is renumbered; `between` has z joined and no row renumbered
pub record JoinStep (t d : Layer) (z v h : ℕ) : Type 0 where
  pub between : Layer
  pub joined : Joined t between z v
  pub head : Head between z h
  pub renumbered : Renumbered between d h
