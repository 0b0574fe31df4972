-- The walk for numbers with the apex of the present path carried along, so that no visit looks for it.
use Rattle.std.specs.Prelude.{◌≡◌, ℕ, ◌+◌, ◌<◌, eqb}
use Rattle.laws.specs.Test.{pick}
use Rattle.tree_laws.specs.Walk.{Visit}
use Rattle.renumber_laws.specs.Numbers.{Numbers, size_of, numbered_below}

-- what the walk stores, the apex of the path that the present row lies on, and how many rows were given a start
pub record Carried : Type 0 where
  pub numbers : Numbers
  pub top : ℕ
  pub given : ℕ

-- down into x: placed below the apex of its parent's path; x is an apex itself where it is no path child. Up out of x: back to its parent's path
unfoldable pub carried_visit : (parent path : ℕ → ℕ) → Visit Carried
carried_visit parent path = record {
  enter = λ x s. record {
    numbers = numbered_below parent path s.top x s.numbers;
    top = pick (eqb (path (parent x)) x) s.top x;
    given = s.given + 1;
  };
  leave = λ x s. record { numbers = s.numbers; top = s.numbers.upper x; given = s.given };
}

-- what a visit of x below u stores, over the columns c, is what stands in d when the walk has ended
pub record Lasting (parent path : ℕ → ℕ) (d : Numbers) (x u : ℕ) (c : Numbers) : Type 0 where
  pub upper : u ≡ d.upper x
  pub start : c.next_free u ≡ d.start x
  pub set_size : size_of parent path c x ≡ d.set_size x

-- what holds on the way down into x: it is given what stands in d at the end, and fewer than n rows were given a start before
pub record Coming (parent path : ℕ → ℕ) (d : Numbers) (n x : ℕ) (s : Carried) : Type 0 where
  pub lasting : Lasting parent path d x s.top s.numbers
  pub few : s.given < n
