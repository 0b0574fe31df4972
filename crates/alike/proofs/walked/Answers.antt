-- `walked`: the turns that are left from where the walk stands are those of the definition.
use Rattle.std.proofs.Common.{◌≡◌, ◌+◌, ◌-◌, sym, ◌∙◌, arith}
use Rattle.alike.proofs.AlikeLaws.{walk_told, walk_lost, walk_on, walk_end}
use Rattle.alike.proofs.walked.Goals as goal

pub loop-init : goal.loop-init
loop-init c = let e : c.args.t.now.count - 0 ≡ c.args.t.now.count = omega arith in rw e

pub returns-in-Told : goal.returns-in-Told
returns-in-Told c = walk_told _ _ _ _ _ _ (omega arith) (sym c.in-Told.ensures) ∙ sym c.loop.invariant

pub returns-in-Lost : goal.returns-in-Lost
returns-in-Lost c = walk_lost _ _ _ _ _ _ (sym c.in-Lost.ensures) ∙ sym c.loop.invariant

pub loop-preserved : goal.loop-preserved
loop-preserved c = let l = c.loop in
    l.invariant ∙ walk_on _ _ _ _ _ (c.args.t.now.count - l.counter) (c.args.t.now.count - (l.counter + 1)) (omega arith) (sym c.in-On.ensures)

pub returns : goal.returns
returns c = walk_end _ _ _ _ _ _ (omega arith) ∙ sym c.loop.invariant
