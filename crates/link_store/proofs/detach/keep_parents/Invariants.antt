-- `keep_parents` passes over the rows in use.
use Rattle.std.specs.Prelude.{◌≡◌, ◌-◌}
use Rattle.link_store.specs.Detach.{kept_parents}
use Rattle.link_store.proofs.detach.keep_parents.Given as goal

abbrev pub invariant-loop-w : goal.invariant-loop-w
invariant-loop-w l = kept_parents l.ancestors l.tree l.n 0 l.initial.fields ≡ kept_parents l.ancestors l.tree (l.n - l.w) l.w l.fields
