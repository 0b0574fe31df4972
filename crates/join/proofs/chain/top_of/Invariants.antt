-- `top_of` walks as its definition does.
use Rattle.std.specs.Prelude.{◌≡◌, ◌-◌}
use Rattle.tree_laws.specs.Ancestor.{none}
use Rattle.join.specs.Chain.{top_from}
use Rattle.join.proofs.chain.top_of.Given as goal

abbrev pub invariant-loop : goal.invariant-loop
invariant-loop l = top_from l.rows.count l.rows.fields.now l.rows.numbers.now l.rows.count l.first none
    ≡ top_from (l.rows.count - l.counter) l.rows.fields.now l.rows.numbers.now l.rows.count l.u l.top
