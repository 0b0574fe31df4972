-- `own`: after so many turns the entries so far are as they should be.
use Rattle.std.specs.Prelude.{refl}
use Rattle.std.proofs.Common.{arith, length-set}
use native.Mathlib.Numerals.{add-one}
use Rattle.renumber.specs.EntriesLaws.{own_more, own_all}
use Rattle.renumber.proofs.entries.own.Goals as goal

pub loop-i-init : goal.loop-i-init
loop-i-init c = (omega arith, refl)

pub loop-i-preserved : goal.loop-i-preserved
loop-i-preserved c = let l = c.loop-i in
    (simp length-set l.invariant.0, rw add-one (own_more _ l.i _ l.row _ l.invariant.0 (omega arith) l.invariant.1 c.owned.ensures))

pub returns : goal.returns
returns c = let l = c.loop-i in own_all _ l.i l.row _ l.invariant.0 (omega arith) l.invariant.1
