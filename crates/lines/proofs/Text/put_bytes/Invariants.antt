-- `put_bytes`: the bytes from the turn's on are left to write.
use Rattle.std.specs.Prelude.{◌≡◌, drop}
use Rattle.lines.specs.Text.{append}
use Rattle.lines.proofs.Text.put_bytes.Given as goal

abbrev pub invariant-loop-b : goal.invariant-loop-b
invariant-loop-b l = append l.self (drop l.b-index l.bytes) ≡ append l.initial.self l.bytes
