-- `lowered`: the branch that leads on, if one does.
use Rattle.std.proofs.Common.{sym, ◌∙◌}
use Rattle.query.specs.PlainAnswer.{lowered}
use Rattle.query.proofs.plain.lowered.Goals as goal

pub returns-in_err-xr : goal.returns-in_err-xr
unfolding lowered
returns-in_err-xr c = rw (c.from_residual.ensures, sym c.is_on_line.ensures ∙ c.if-is_on_line.true, ← c.in_err-xr.ensures)

pub returns-then-is_on_line : goal.returns-then-is_on_line
unfolding lowered
returns-then-is_on_line c = rw (c.lower_x.ensures, sym c.is_on_line.ensures ∙ c.if-is_on_line.true, ← c.in_ok-xr.ensures)

pub returns-in_err-yr : goal.returns-in_err-yr
unfolding lowered
returns-in_err-yr c = let off = sym c.is_on_line.ensures ∙ c.if-is_on_line.false in
    let on = sym c.is_on_line-2.ensures ∙ c.if-is_on_line-2.true in
    rw (c.from_residual-in_err-yr.ensures, off, on, ← c.in_err-yr.ensures)

pub returns-then-is_on_line-2 : goal.returns-then-is_on_line-2
unfolding lowered
returns-then-is_on_line-2 c = let off = sym c.is_on_line.ensures ∙ c.if-is_on_line.false in
    let on = sym c.is_on_line-2.ensures ∙ c.if-is_on_line-2.true in
    rw (c.lower_y.ensures, off, on, ← c.in_ok-yr.ensures)

pub returns : goal.returns
unfolding lowered
returns c = let off = sym c.is_on_line.ensures ∙ c.if-is_on_line.false in
    let neither = sym c.is_on_line-2.ensures ∙ c.if-is_on_line-2.false in
    rw (off, neither)
