-- `check_walk` steps as its definition does.
use Rattle.std.specs.Prelude.{◌≡◌, true, ◌-◌, Some}
use Rattle.join.specs.CheckWalk.{check_walk}
use Rattle.join.proofs.check_walk.check_walk.Given as goal

abbrev pub invariant-loop : goal.invariant-loop
invariant-loop l = check_walk l.steps l.rows.fields.now l.rows.numbers.now l.rows.count l.leaf l.head (Some (record { row = l.head; down = true }))
    ≡ check_walk (l.steps - l.counter) l.rows.fields.now l.rows.numbers.now l.rows.count l.leaf l.head (Some l.t)
