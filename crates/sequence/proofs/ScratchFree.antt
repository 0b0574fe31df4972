-- What is proved of `ScratchFree`.
use Rattle.std.specs.Prelude.{◌≡◌, refl, List, ℕ, length}
use Rattle.std.proofs.Common.{ap}
use Rattle.table.specs.Parts.{Parts}
use Rattle.growth.specs.Growth.{add_first, add_leaf, add_over, add_root}
use Rattle.growth.specs.GrowthLaws.{grow_same}
use Rattle.sequence.specs.Calls.{Call}
use Rattle.sequence.specs.Run.{Fast, start, after_growth, step, turns, run}
use Rattle.sequence.specs.ScratchFree.{SameCall, SameCalls, ScratchFree, end, next, same_call, same_first, same_leaf, same_over, same_root}

-- From whatever stands

same_step : (f : Fast) {q r : Call} → SameCall q r → step f q ≡ step f r
unfolding step add_first add_leaf add_root add_over
same_step f (same_first {s} {r} e) = ap (after_growth f.state) (grow_same f.parts f.tally (length s) (length r) _ e)
same_step f (same_leaf {s = s} {r = r} e) = ap (after_growth f.state) (grow_same f.parts f.tally (length s) (length r) _ e)
same_step f (same_root {s = s} {r = r} e) = ap (after_growth f.state) (grow_same f.parts f.tally (length s) (length r) _ e)
same_step f (same_over {s = s} {r = r} e) = ap (after_growth f.state) (grow_same f.parts f.tally (length s) (length r) _ e)
same_step f (same_call q) = refl

same_turns : (f : Fast) {calls others : List Call} → SameCalls calls others → turns f calls ≡ turns f others
unfolding turns
same_turns f end = refl
same_turns f (next {q} {r} {qs} {rs} h i) = rw (same_step f h, same_turns (step f r).after i) refl

same_run : (f : Fast) {calls others : List Call} → SameCalls calls others → run f calls ≡ run f others
unfolding run
same_run f end = refl
same_run f (next {q} {r} {qs} {rs} h i) = rw (same_step f h, same_run (step f r).after i) refl

pub scratch_free : (parts : Parts) (w : List ℕ) {calls others : List Call} → SameCalls calls others → ScratchFree parts w calls others
scratch_free parts w e = record { each = same_turns (start parts w) e; whole = same_run (start parts w) e }
