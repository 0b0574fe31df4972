-- `write` stores the column from its place on, one number a turn.
use Rattle.std.specs.Prelude.{◌≡◌, All, take}
use Rattle.std.proofs.lemmas.List.Edits.{sets}
use Rattle.bytes_tree.specs.Column.{joined}
use Rattle.bytes_tree.proofs.columns.write.Given as goal

abbrev pub invariant-loop-i : goal.invariant-loop-i
invariant-loop-i g l = let t = g.T.Kept in record {
  stored : l.b ≡ sets l.initial.b l.place (joined t.bytes_of (take l.i l.part));
  fitting : All t.fits (take l.i l.part);
}
