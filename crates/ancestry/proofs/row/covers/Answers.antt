-- `covers`: the number is compared with p and q.
use Rattle.ancestry.specs.ReadingLaws.{covers_below, covers_from}
use Rattle.ancestry.proofs.row.covers.Goals as goal

pub returns-then-n-p_at : goal.returns-then-n-p_at
returns-then-n-p_at c = covers_below _ _ (rw c.p_at.ensures at c.if-n-p_at.true)

pub q-requires : goal.q-requires
q-requires c = rw c.span_of.ensures c.requires.end

pub returns : goal.returns
returns c = rw (c.q.ensures, c.span_of.ensures) (covers_from _ _ (rw c.p_at.ensures at c.if-n-p_at.false))
