-- The calls that a log can ask for.
use Rattle.std.specs.Prelude.{Bool, List, [], ◌∷◌, ℕ}
use Rattle.sequence.specs.Calls.{Call, leaf, root, question, alike}
use Rattle.turn.specs.Asked.{Asked, call, nothing}

pub data Logged : Call → Type 0 where
  a_leaf : {v l a : ℕ} {s : List ℕ} → Logged (leaf v l a s)
  a_root : {named : Bool} {opening : ℕ} {s : List ℕ} → Logged (root named opening s)
  a_question : {x y : ℕ} → Logged (question x y)
  an_alike : {x y : ℕ} → Logged (alike x y)

pub data AllLogged : List Call → Type 0 where
  none_logged : AllLogged []
  logged : {q : Call} {qs : List Call} → Logged q → AllLogged qs → AllLogged (q ∷ qs)

-- a field asks for one of them, or for nothing
pub data Fair : Asked → Type 0 where
  fair_call : {q : Call} → Logged q → Fair (call q)
  fair_nothing : Fair nothing
