-- `p_at`: a sound row's span lies within the limit.
use Rattle.ancestry.proofs.row.p_at.Goals as goal

pub p-requires : goal.p-requires
p-requires c = rw c.span_of-span.ensures c.requires.end

pub returns : goal.returns
returns c = rw (c.p.ensures, c.span_of-span.ensures)
