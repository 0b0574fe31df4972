-- `link`: refused with nothing changed, or served.
use Rattle.std.specs.Prelude.{◌≡◌, Err, length}
use Rattle.std.proofs.Common.{ap, ◌∙◌, arith, rules}
use Rattle.table.specs.Lent.{parts_in_mut}
use Rattle.table.specs.Parts.{Parts}
use Rattle.link_plan.specs.Check.{link_checked}
use Rattle.link_plan.specs.ServeLaws.{serve_ready}
use Rattle.link.specs.LinkLaws.{call_refused, call_served}
use Rattle.link.proofs.link.Goals as goal

pub store_link-rows-requires : goal.store_link-rows-requires
store_link-rows-requires c = let a = c.args in
    let told = c.check_link.ensures ∙ ap (λ (p : Parts). link_checked p a.tally.now (length a.scratch.now) a.state a.x a.v a.door) c.read.ensures in
    let r = serve_ready (parts_in_mut a.parts.now) a.tally.now (length a.scratch.now) a.state a.x a.v a.door told c.in_ok-trees.was in record { holds = r.holds; scratch_len_bound = r.most }

pub move_one-requires : goal.move_one-requires
move_one-requires c = let a = c.args in
    let told = c.check_link.ensures ∙ ap (λ (p : Parts). link_checked p a.tally.now (length a.scratch.now) a.state a.x a.v a.door) c.read.ensures in
    let r = serve_ready (parts_in_mut a.parts.now) a.tally.now (length a.scratch.now) a.state a.x a.v a.door told c.in_ok-trees.was in (r.tally, (r.some, r.few))

pub returns-in_err-trees-clause-linked : goal.returns-in_err-trees-clause-linked
returns-in_err-trees-clause-linked c = let a = c.args in
    let told = c.check_link.ensures ∙ ap (λ (p : Parts). link_checked p a.tally.now (length a.scratch.now) a.state a.x a.v a.door) c.read.ensures in
    let refused : c.from_residual.result ≡ Err c.in_err-trees.field-0.0 = search rules in
    rw refused (call_refused (parts_in_mut a.parts.now) a.tally.now a.scratch.now a.state a.x a.v a.door told c.in_err-trees.was)

pub returns-clause-linked : goal.returns-clause-linked
returns-clause-linked c = let a = c.args in
    let told = c.check_link.ensures ∙ ap (λ (p : Parts). link_checked p a.tally.now (length a.scratch.now) a.state a.x a.v a.door) c.read.ensures in
    call_served (parts_in_mut a.parts.now) a.tally.now a.scratch.now a.state a.x a.v a.door told c.in_ok-trees.was c.store_link-rows.ensures.stored c.move_one.ensures (omega arith)
