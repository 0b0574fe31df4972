-- `seek`: its tests are those of the definition, in the same order.
use Rattle.query.specs.SoughtLaws.{sought_lost_x, sought_lost_y, sought_other, sought_no_root, sought_root}
use Rattle.query.proofs.tree.seek.Goals as goal

pub returns-then-f : goal.returns-then-f
returns-then-f c = sought_lost_x _ _ _ _ _ c.tree_of-f.ensures c.if-f.true

pub returns-then-g : goal.returns-then-g
returns-then-g c = sought_lost_y _ _ _ _ _ c.tree_of-f.ensures c.if-f.false c.tree_of-g.ensures c.if-g.true

pub returns-then-f-g : goal.returns-then-f-g
returns-then-f-g c = let left = c.tree_of-f.ensures in
    let right = c.tree_of-g.ensures in
    sought_other _ _ _ _ _ left c.if-f.false right c.if-g.false c.if-f-g.true

pub returns-then-r : goal.returns-then-r
returns-then-r c = let left = c.tree_of-f.ensures in
    let right = c.tree_of-g.ensures in
    let some = c.if-f.false in
    sought_no_root _ _ _ _ _ left some right c.if-g.false c.if-f-g.false c.root_of-r.ensures c.if-r.true

pub returns : goal.returns
returns c = let left = c.tree_of-f.ensures in
    let right = c.tree_of-g.ensures in
    let some = c.if-f.false in
    sought_root _ _ _ _ _ left some right c.if-g.false c.if-f-g.false c.root_of-r.ensures c.if-r.false
