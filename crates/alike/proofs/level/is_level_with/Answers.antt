-- `is_level_with`: two levels are equal exactly where their words are.
use Rattle.table.proofs.LevelLaws.{word_eq}
use Rattle.alike.proofs.level.is_level_with.Goals as goal

pub returns : goal.returns
returns c = let x = c.level.result in
    let y = c.level-2.result in
    rw (← c.level.ensures, ← c.level-2.ensures) (word_eq x y (record { sfits = c.level.type_inv }) (record { sfits = c.level-2.type_inv }))
