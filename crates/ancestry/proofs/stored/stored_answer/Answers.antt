-- `stored_answer`: by the numbers of both nodes.
use Rattle.ancestry.specs.ReadingLaws.{p_limit}
use Rattle.ancestry.proofs.stored.stored_answer.Goals as goal

pub stored_from-requires : goal.stored_from-requires
stored_from-requires c = record { holds = c.requires.holds; entry_stride_in_bounds = c.requires.entry_stride_in_bounds; asked = c.requires.asked; px_le_limit = (rw c.p_at-px.ensures (p_limit c.requires.asked.left), rw c.p_at-py.ensures (p_limit c.requires.asked.right)) }

pub returns : goal.returns
returns c = rw (c.stored_from.ensures, c.p_at-py.ensures, c.p_at-px.ensures)
