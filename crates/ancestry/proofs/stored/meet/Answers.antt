-- `meet`: its calls are the definition's parts, and its rows are sound.
use Rattle.ancestry.specs.PathFields.{path_row_in, meeting_in_lem}
use Rattle.ancestry.specs.StoredAnswer.{meeting, branch_of}
use Rattle.ancestry.proofs.stored.meet.Goals as goal

pub higher-a-requires : goal.higher-a-requires
higher-a-requires c = record { in_fields = rw c.path_row-b.ensures (path_row_in _ _ c.requires.path_fields); in_fields_2 = rw c.path_row-d.ensures (path_row_in _ _ c.requires.path_fields_2) }

pub branch_at-to_x-requires : goal.branch_at-to_x-requires
unfolding meeting
branch_at-to_x-requires c = rw (c.higher-a.ensures, c.path_row-b.ensures, c.path_row-d.ensures) (meeting_in_lem _ _ _ c.requires.path_fields c.requires.path_fields_2)

pub branch_at-to_y-requires : goal.branch_at-to_y-requires
unfolding meeting
branch_at-to_y-requires c = rw (c.higher-a.ensures, c.path_row-b.ensures, c.path_row-d.ensures) (meeting_in_lem _ _ _ c.requires.path_fields c.requires.path_fields_2)

pub returns : goal.returns
unfolding meeting branch_of
returns c = rw (
  c.forked.ensures,
  c.branch_at-to_y.ensures,
  c.branch_at-to_x.ensures,
  c.higher-a.ensures,
  c.path_row-d.ensures,
  c.path_row-b.ensures,
)
