-- `copies_links` lends the row, from the middle of the table, to `are_links`.
use mathlib.Core.Path.{◌≡◌, ◌∙◌}
use Prim.Native.Nat.{ℕ, ◌+◌, ◌-◌}
use native.Mathlib.Omega.{arith}
use Rattle.layer.specs.Layout.{entry_stride}
use Rattle.join.specs.CopiedLaws.{copies_none, copies_row}
use Rattle.join.proofs.copied.copies_links.Goals as goal

row-long : (a : ℕ) → (a + entry_stride) - a ≡ entry_stride
row-long a = omega arith

pub returns-then-ancestors-e : goal.returns-then-ancestors-e
returns-then-ancestors-e c = let a = c.args in copies_none a.ancestors.now a.count a.u c.if-ancestors-e.true

pub returns : goal.returns
returns c = let a = c.args in
    rw row-long at c.are_links.ensures ∙ copies_row a.ancestors.now a.count a.u c.if-ancestors-e.false
