-- `write` stores the column from its place on, one number a turn.
use Rattle.std.proofs.Common.{◌∙◌, arith, subst}
use Rattle.std.proofs.lemmas.List.Elements.{All-more}
use Rattle.bytes_tree.specs.ColumnLaws.{store_more}
use Rattle.bytes_tree.proofs.columns.write.Goals as goal

pub loop-i-preserved : goal.loop-i-preserved
loop-i-preserved g c =
    let t = g.T.Kept in
    let l = c.loop-i in
    let x = c.index-part-i in
    record {
      stored =
          c.write.ensures.bytes
          ∙ rw (c.WIDTH.ensures, l.invariant.stored) (store_more t.bytes_of t.WIDTH g.met.T.Kept.width c.args.b.now c.args.part.now c.args.place l.i x.result (omega arith) x.is);
      fitting = All-more t.fits c.args.part.now l.i x.result (omega arith) l.invariant.fitting (subst t.fits x.is c.write.ensures.range);
    }
