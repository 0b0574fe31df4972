-- `walked`: the turns that are left from where the walk stands are those of the definition.
use Rattle.std.proofs.Common.{◌≡◌, ◌-◌}
use Rattle.ancestry.specs.StoredAnswer.{stored_answer}
use Rattle.query.specs.InUse.{table_in}
use Rattle.alike.specs.Alike.{walked}
use Rattle.alike.proofs.walked.Given as goal

abbrev pub invariant-loop : goal.invariant-loop
invariant-loop l = walked (table_in l.t) (stored_answer (table_in l.t).layer) l.root l.t.count l.x l.y
    ≡ walked (table_in l.t) (stored_answer (table_in l.t).layer) l.root (l.t.count - l.counter) l.u l.v
