-- `number_walk` steps as its definition does.
use Rattle.std.specs.Prelude.{◌≡◌, true, ◌-◌, length}
use Rattle.renumber.specs.NumberWalk.{written, number_walk}
use Rattle.renumber.proofs.number_walk.number_walk.Given as goal

abbrev pub invariant-loop : goal.invariant-loop
invariant-loop l = (length l.fields ≡ length l.initial.fields) × ((length l.numbers ≡ length l.initial.numbers) × ((length l.ancestors ≡ length l.initial.ancestors) ×
    (number_walk l.steps (written l.initial.fields l.initial.numbers l.initial.ancestors) (record { row = l.head; down = true; apex = l.head; given = 1 }) ≡ number_walk (l.steps - l.counter) (written l.fields l.numbers l.ancestors) l.t)))
