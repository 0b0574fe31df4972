-- `above_of` copies the row, or answers a row of none.
use Rattle.std.specs.Prelude.{◌≡◌, ℕ, ◌+◌, ◌-◌}
use Rattle.std.proofs.Common.{◌∙◌, sym, arith}
use Rattle.layer.specs.Layout.{entry_stride}
use Rattle.renumber.specs.EntriesLaws.{above_none, above_row}
use Rattle.renumber.proofs.entries.above_of.Goals as goal

row-long : (a : ℕ) → (a + entry_stride) - a ≡ entry_stride
row-long a = omega arith

pub returns-then-ancestors-e : goal.returns-then-ancestors-e
returns-then-ancestors-e c = sym (above_none c.args.ancestors.now c.args.u c.if-ancestors-e.true)

pub returns : goal.returns
returns c = let a = c.args in rw row-long at c.copy_from_slice.ensures.after ∙ sym (above_row a.ancestors.now a.u c.if-ancestors-e.false)
