-- `are_alike`: what is looked at first refuses, or the tree's root is found and the walk served.
use Rattle.std.proofs.Common.{sym, ◌∙◌}
use Rattle.std.proofs.lemmas.Result.{err_from_is_err_and}
use Rattle.query.specs.AskedLaws.{root_held}
use Rattle.alike.proofs.AlikeLaws.{alike_by}
use Rattle.alike.proofs.are_alike.Goals as goal

pub returns-in_err-root : goal.returns-in_err-root
returns-in_err-root c =
    let p = err_from_is_err_and c.from_residual.result c.from_residual.ensures.1 in rw (p.1, p.2) (alike_by _ _ _ _ c.in_err-root.ensures)

pub invariant_of-t : goal.invariant_of-t
invariant_of-t c = record { held = root_held _ _ _ _ _ (sym c.in_ok-root.ensures) }

pub returns : goal.returns
returns c = c.served.ensures ∙ alike_by _ _ _ _ c.in_ok-root.ensures
