-- What is proved of `Joinings`.
use Rattle.std.specs.Prelude.{◌≡◌, refl, false, ◌≢◌, ℕ, ◌+◌}
use mathlib.Core.List.{List, [], ◌∷◌}
use native.Mathlib.Omega.{arith}
use Rattle.tree_laws.specs.Ancestor.{none}
use Rattle.plain_list.specs.PlainList.{PlainList, empty_list, count_of}
use Rattle.plain_list.proofs.PlainListLaws.{node_count, root_count}
use Rattle.plain_list.specs.PlainStep.{PlainCall}
use Rattle.plain_list.specs.PlainStep.{linked, PlainOutcome, root_in, plain_after, plain_run}
use Rattle.plain_list.proofs.PlainStepLaws.{node_unlinked, Does, nothing, adds_first, adds_leaf, adds_root, adds_over, joins, call_does}
use Rattle.plain_list.specs.Joinings.{Linkless, Unlinked, end, is_link, next}

module _ (capacity : ℕ) where
  -- calls that ask for no link get none

  step_unlinked : (p : PlainList) {q : PlainCall} {o : PlainOutcome} → Does capacity p q o → is_link q ≡ false → o.reply ≢ linked
  step_unlinked p (nothing d) i = d
  step_unlinked p (adds_first d) i = node_unlinked (count_of p)
  step_unlinked p (adds_leaf h j k m d) i = node_unlinked (count_of p)
  step_unlinked p (adds_root z d) i = node_unlinked (count_of p)
  step_unlinked p (adds_over h r d) i = node_unlinked (count_of p)
  step_unlinked p (joins h i j k r d) f = absurd (let z : ◌≡◌ {A = ℕ} 0 1 = cc in omega arith)

  pub unlinked : (p : PlainList) {qs : List PlainCall} → Linkless qs → Unlinked (plain_run capacity p qs).replies
  unfolding plain_run
  unlinked p end = end
  unlinked p (next {q = q} i l) = next (step_unlinked p (call_does capacity p q) i) (unlinked (plain_after capacity p q) l)

  -- each call then joins the nodes that it adds

  step_count : (p : PlainList) {q : PlainCall} {o : PlainOutcome} → Does capacity p q o → o.reply ≢ linked → count_of o.after ≡ count_of p + o.joined
  step_count p (nothing d) e = omega arith
  step_count p (adds_first d) e = omega (arith, node_count p none 0 0)
  step_count p (adds_leaf {v = v} {l} {f} h i j k d) e = omega (arith, node_count p v l f)
  step_count p (adds_root {named = named} {opening} z d) e = omega (arith, root_count p (root_in p 0) named opening)
  step_count p (adds_over {r = r} {named} {opening} h i d) e = omega (arith, root_count p r named opening)
  step_count p (joins h i j k r d) e = absurd (e refl)

  run_count : (p : PlainList) (qs : List PlainCall) → Unlinked (plain_run capacity p qs).replies
      → count_of (plain_run capacity p qs).last ≡ count_of p + (plain_run capacity p qs).joinings
  unfolding plain_run
  run_count p [] end = omega arith
  run_count p (q ∷ qs) (next d u) = omega (arith, step_count p (call_does capacity p q) d, run_count (plain_after capacity p q) qs u)

  pub joinings_count : (qs : List PlainCall) → Unlinked (plain_run capacity empty_list qs).replies
      → (plain_run capacity empty_list qs).joinings ≡ count_of (plain_run capacity empty_list qs).last
  joinings_count qs u = omega (arith, run_count empty_list qs u)
