-- `log_fields::body_at` meets its contract: the next place says whether there is a body, and where it ends.
use mathlib.Core.Path.{sym, ◌∙◌}
use Prim.Native.Nat.{◌+◌}
use native.Mathlib.Nat.{add-zero, add_comm}
use native.Mathlib.Omega.{arith}
use Rattle.log_fields.specs.FieldLaws.{next_passes, body_stays, body_moves, start_stays, start_moves}
use Rattle.log_fields.proofs.body_at.Goals as goal

pub returns-then-next-at : goal.returns-then-next-at
returns-then-next-at c = let a = c.args in
    let stays = sym c.next_at-next.ensures ∙ c.if-next-at.true in
    record {
      bytes = sym (body_stays a.log.now a.at stays);
      lies = rw (start_stays a.log.now a.at stays, add-zero a.log.ref_ptr.1);
    }

pub overflow_add-result : goal.overflow_add-result
overflow_add-result c = let a = c.args in
    omega (arith, next_passes a.log.now a.at (λ e. c.if-next-at.false (c.next_at-next.ensures ∙ e)))

pub slice_bounds-result-count : goal.slice_bounds-result-count
slice_bounds-result-count c = let a = c.args in
    omega (arith, next_passes a.log.now a.at (λ e. c.if-next-at.false (c.next_at-next.ensures ∙ e)))

pub slice_bounds-result-start : goal.slice_bounds-result-start
slice_bounds-result-start c = let a = c.args in
    omega (arith, next_passes a.log.now a.at (λ e. c.if-next-at.false (c.next_at-next.ensures ∙ e)))

pub slice_bounds-result-end-2 : goal.slice_bounds-result-end-2
slice_bounds-result-end-2 c = let a = c.args in
    omega (arith, next_passes a.log.now a.at (λ e. c.if-next-at.false (c.next_at-next.ensures ∙ e)))

pub returns : goal.returns
returns c = let a = c.args in
    let next = c.next_at-next.ensures in
    record {
      bytes = rw next (sym (body_moves a.log.now a.at (λ e. c.if-next-at.false (next ∙ e))));
      lies = rw (start_moves a.log.now a.at (λ e. c.if-next-at.false (next ∙ e)), add_comm a.log.ref_ptr.1 (a.at + 3));
    }
