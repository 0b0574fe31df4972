-- `own_from` looks the reach up among the powers.
use Rattle.span.specs.RankLaws.{rank_listed}
use Rattle.span.specs.OwnFrom.{own_from}
use Rattle.span.specs.Numbers.{capped, reach_of}
use native.Mathlib.Omega.{arith}
use borrow.Author.Tests.{eq-eqb, ne_eqb}
use mathlib.Core.Path.{◌∙◌, sym}
use Rattle.span.proofs.powers.own_from.Goals as goal

pub returns-then-reach-eq0 : goal.returns-then-reach-eq0
unfolding own_from
returns-then-reach-eq0 c = rw (eq-eqb (capped (reach_of c.args.set_size)) 0 (sym c.reach-reach.ensures ∙ c.if-reach-eq0.true))

pub overflow_add-result : goal.overflow_add-result
overflow_add-result c = omega (arith, c.rank.ensures, rank_listed c.reach-reach.result)

pub returns : goal.returns
unfolding own_from
returns c = rw (c.rank.ensures, c.reach-reach.ensures, ne_eqb (capped (reach_of c.args.set_size)) 0 (λ e. c.if-reach-eq0.false (c.reach-reach.ensures ∙ e)))
