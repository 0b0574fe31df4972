-- `sides_joined`: a side is lost, or both are joined.
use Rattle.std.proofs.Common.{arith}
use Rattle.span.specs.RankLaws.{rank_listed, rank_small}
use Rattle.ancestry.specs.AnswerRows.{if_some, side_rows}
use Rattle.ancestry.specs.StoredAnswerLaws.{side_is}
use Rattle.ancestry.proofs.stored.sides_joined.Goals as goal

pub overflow_cast-i : goal.overflow_cast-i
overflow_cast-i c = rw c.rank-i.ensures record { fits = omega (arith, rank_listed c.args.d) }

pub entry_of-e-requires : goal.entry_of-e-requires
entry_of-e-requires c = omega (arith, c.requires.entry_stride_in_bounds, c.requires.asked.left.in_use, c.rank-i.ensures, rank_small c.args.d c.requires.d_le_limit)

pub returns-in_err-c : goal.returns-in_err-c
returns-in_err-c c = let x = side_is _ _ c.args.ancestors.now _ _ _ c.rank-i.ensures c.entry_of-e.ensures c.in_err-c.ensures in
    rw (c.from_residual.ensures, ← x)

pub entry_of-g-requires : goal.entry_of-g-requires
entry_of-g-requires c = omega (arith, c.requires.entry_stride_in_bounds, c.requires.asked.right.in_use, c.rank-i.ensures, rank_small c.args.d c.requires.d_le_limit)

pub side_from-requires-2-clause-row : goal.side_from-requires-2-clause-row
side_from-requires-2-clause-row c = (if_some _ c.in_ok-c.ensures (side_rows _ _ _ _ _ _ c.requires.asked.left)).row

pub returns-in_err-k : goal.returns-in_err-k
returns-in_err-k c = let x = side_is _ _ c.args.ancestors.now _ _ _ c.rank-i.ensures c.entry_of-e.ensures c.in_ok-c.ensures in
    let y = side_is _ _ c.args.ancestors.now _ _ _ c.rank-i.ensures c.entry_of-g.ensures c.in_err-k.ensures in
    rw (c.from_residual-in_err-k.ensures, ← x, ← y)

pub join-requires-clause-side_rows : goal.join-requires-clause-side_rows
join-requires-clause-side_rows c = if_some _ c.in_ok-c.ensures (side_rows _ _ _ _ _ _ c.requires.asked.left)

pub join-requires-clause-side_rows_2 : goal.join-requires-clause-side_rows_2
join-requires-clause-side_rows_2 c = if_some _ c.in_ok-k.ensures (side_rows _ _ _ _ _ _ c.requires.asked.right)

pub returns : goal.returns
returns c = let x = side_is _ _ c.args.ancestors.now _ _ _ c.rank-i.ensures c.entry_of-e.ensures c.in_ok-c.ensures in
    let y = side_is _ _ c.args.ancestors.now _ _ _ c.rank-i.ensures c.entry_of-g.ensures c.in_ok-k.ensures in
    rw (← x, ← y) c.join.ensures
