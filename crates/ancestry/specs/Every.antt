-- What holds of every number of a list.
use Rattle.std.specs.Prelude.{List, [], ◌∷◌, ◌++◌, ℕ, suc, ◌<◌, length, get_or}
use Rattle.std.proofs.Common.{arith}

abbrev pub Every : (ℕ → Type 0) → List ℕ → Type 0
Every P [] = Unit {0}
Every P (v ∷ l) = P v × Every P l

pub every : (P : ℕ → Type 0) (l : List ℕ) → ((i : ℕ) → i < length l → P (get_or l i 0)) → Every P l
every P [] h = tt
every P (v ∷ l) h = (h 0 (omega arith), every P l (λ i j. h (suc i) (omega arith)))

pub every_left : (P : ℕ → Type 0) (k l : List ℕ) → Every P (k ++ l) → Every P k
every_left P [] l h = tt
every_left P (v ∷ k) l h = (h.0, every_left P k l h.1)

pub every_right : (P : ℕ → Type 0) (k l : List ℕ) → Every P (k ++ l) → Every P l
every_right P [] l h = h
every_right P (v ∷ k) l h = every_right P k l h.1
