-- `are_ones`: all cells hold 1.
use Rattle.std.specs.Prelude.{eqb, get_or}
use Rattle.std.proofs.Common.{rules}
use Rattle.inspect_laws.proofs.AllRows.{all_rows}
use Rattle.inspect_tree.proofs.compressed.are_ones.Goals as goal

pub returns : goal.returns
returns c = all_rows (λ x. eqb (get_or c.args.s.now x 0) 1) c.args.n _ c.all.ensures.ran (λ x b q k. search rules)
