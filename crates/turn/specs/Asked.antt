-- What a whole field asks for (01, "The log").
use Rattle.std.specs.Prelude.{List, ℕ, eqb, get_or}
use Rattle.laws.specs.Test.{pick}
use Rattle.sequence.specs.Calls.{Call, leaf, root, question, alike}

-- a call, or nothing
pub data Asked : Type 0 where
  call : Call → Asked
  nothing : Asked

-- by the field's kind and values
abbrev pub asked_by : List ℕ → ℕ → List ℕ → Asked
asked_by scratch kind v =
    pick (eqb kind 1) (call (leaf (get_or v 0 0) (get_or v 1 0) (get_or v 2 0) scratch))
    (pick (eqb kind 2) (call (root (eqb (get_or v 0 0) 1) (get_or v 1 0) scratch))
    (pick (eqb kind 3) (call (question (get_or v 0 0) (get_or v 1 0)))
    (pick (eqb kind 4) (call (alike (get_or v 0 0) (get_or v 1 0)))
    nothing)))
