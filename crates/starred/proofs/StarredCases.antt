-- One theorem over the table of 01's cases marked *: the definitions that the contracts name give what must be seen. All of it is evaluated.
use Rattle.std.specs.Prelude.{◌≡◌, refl, List, [], ◌∷◌}
use Rattle.sequence.specs.Run.{run, total_in}
use Rattle.starred.specs.Engine.{engine}
use Rattle.starred.specs.Cases.{Case, seen, cases}

-- every case of a list gives what is due
abbrev pub AllHold : List Case → Type 0
AllHold [] = Unit {0}
AllHold (c ∷ cs) = (seen c ≡ c.due) × AllHold cs

pub starred_cases : AllHold cases
unfolding cases engine run total_in
starred_cases = (refl, (refl, (refl, (refl, (refl, tt)))))
