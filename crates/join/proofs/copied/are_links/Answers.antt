-- `are_links`: what is held so far is the test of the first i entries.
use Rattle.std.specs.Prelude.{refl}
use Rattle.std.proofs.Common.{ap, ◌∙◌, arith}
use lib.Seq.{take_all}
use native.Mathlib.Numerals.{add-one}
use Rattle.join.specs.Copied.{are_links}
use Rattle.join.specs.CopiedLaws.{links_more}
use Rattle.join.proofs.copied.are_links.Goals as goal

pub loop-i-init : goal.loop-i-init
unfolding are_links
loop-i-init c = refl

pub loop-i-preserved : goal.loop-i-preserved
loop-i-preserved c = let a = c.args in let l = c.loop-i in
    rw (add-one, l.invariant, c.is_link-held.ensures) (links_more a.count l.i a.entries.now (omega arith))

pub returns : goal.returns
returns c = let l = c.loop-i in l.invariant ∙ ap (are_links _) (take_all l.i _ (omega arith))
