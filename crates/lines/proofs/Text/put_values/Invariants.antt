-- `put_values`: the values from the turn's on are left to write.
use Rattle.std.specs.Prelude.{◌≡◌, take, drop}
use Rattle.lines.specs.Line.{values_of}
use Rattle.lines.specs.Text.{append}
use Rattle.lines.proofs.Text.put_values.Given as goal

abbrev pub invariant-loop-i : goal.invariant-loop-i
invariant-loop-i l = append l.self (values_of (drop l.i (take l.count l.values))) ≡ append l.initial.self (values_of (take l.count l.values))
