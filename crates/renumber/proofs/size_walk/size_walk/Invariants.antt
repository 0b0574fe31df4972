-- `size_walk` steps as its definition does.
use Rattle.std.specs.Prelude.{◌≡◌, true, ◌-◌, length}
use Rattle.renumber.specs.SizeWalk.{size_walk}
use Rattle.renumber.proofs.size_walk.size_walk.Given as goal

abbrev pub invariant-loop : goal.invariant-loop
invariant-loop l = (length l.fields ≡ length l.initial.fields) × (size_walk l.steps l.initial.fields (record { row = l.head; down = true; met = 0 }) ≡ size_walk (l.steps - l.counter) l.fields l.t)
