-- `put_entries` lends the row, from the middle of the table, to `fill`.
use mathlib.Core.Path.{◌≡◌}
use Prim.Native.Nat.{ℕ, ◌+◌, ◌-◌}
use native.Mathlib.Omega.{arith}
use Rattle.layer.specs.Layout.{entry_stride}
use Rattle.renumber.specs.EntriesLaws.{entries_nowhere, entries_row}
use mathlib.Core.Path.{sym}
use Rattle.renumber.proofs.entries.put_entries.Goals as goal

row-long : (a : ℕ) → (a + entry_stride) - a ≡ entry_stride
row-long a = omega arith

pub returns-then-ancestors-e : goal.returns-then-ancestors-e
returns-then-ancestors-e c = sym (entries_nowhere c.args.ancestors.now c.args.x c.args.u c.args.set_size c.if-ancestors-e.true)

pub returns : goal.returns
returns c = rw (row-long, c.fill.ensures, c.above_of-above.ensures, c.own_from-from.ensures) (entries_row c.args.ancestors.now c.args.x c.args.u c.args.set_size c.if-ancestors-e.false)
