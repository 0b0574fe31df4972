-- `join_turn`: on to the next depth, or one row joins.
use Rattle.link_store.specs.WalkLaws.{turn_depth, turn_row}
use Rattle.table.specs.Lent.{parts_in_mut}
use Rattle.link_store.specs.Sort.{cell_at}
use Rattle.link_store.proofs.joins.join_turn.Goals as goal

pub returns-then-j-eq-NONE-clause-walked : goal.returns-then-j-eq-NONE-clause-walked
returns-then-j-eq-NONE-clause-walked c = let a = c.args in turn_depth (cell_at a.heads.now) (cell_at a.links.now) a.n a.x a.door (parts_in_mut a.parts.now) a.j _ c.if-j-eq-NONE.true c.next_depth.ensures

pub returns-clause-walked : goal.returns-clause-walked
returns-clause-walked c = let a = c.args in turn_row (cell_at a.heads.now) (cell_at a.links.now) a.n a.x a.door (parts_in_mut a.parts.now) _ a.j c.if-j-eq-NONE.false c.cell-next.ensures c.join_row-rows.ensures.stored c.add_rows.ensures
