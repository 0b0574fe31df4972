-- The test of rule 2 says that paths, compressed parents and sizes are true.
use Rattle.std.specs.Prelude.{◌≡◌, Bool, true, ◌&&◌, ◌≢◌, ℕ, ◌+◌, ◌<◌, eqb}
use Rattle.std.proofs.Common.{inl, inr, arith}
use Rattle.laws.specs.Measure.{by_measure}
use Rattle.laws.specs.Test.{Says, holds, fails, says_map, says_and, says_ltb, says_eqb, says_all, says_get, pick, all_to}
use Rattle.tree_laws.specs.Ancestor.{none, Forest}
use Rattle.tree_laws.specs.Size.{child_sum, size as size_in}
use Rattle.tree_laws.specs.SizeLaws.{size_children, child_sum_one, child_sum_same}
use Rattle.tree_laws.specs.Compressed.{Apex, UpperStep, Compressed as Uppers}
use Rattle.tree_laws.specs.CompressedLaws.{apex_or, not_apex, says_is_apex, from_step, to_step, compressed_forest}
use Rattle.layer.specs.Layer.{Layer, parent, depth, upper, path, size}
use Rattle.layer.specs.CompressedTree.{PathLink, Upper, Size}
use Rattle.layer.specs.Numbered.{Each, Compressed}
use Rattle.inspect_laws.proofs.Choice.{says_unless}
use Rattle.inspect_laws.specs.Compressed.{is_path, upper_through, is_upper, is_size, are_linked, is_compressed}

-- Paths and compressed parents ------------------------------------------------

says_path : (t : Layer) (x : ℕ) → Says (PathLink t x) (is_path t x)
says_path t x = says_map
    (λ h d. record { in_use = (h d).0; parent = (h d).1 })
    (λ h d. ((h d).in_use, (h d).parent))
    (says_unless (says_eqb (path t x) none) (λ _. says_and (says_ltb (path t x) t.count) (λ _. says_eqb (parent t (path t x)) x)))

says_upper : (t : Layer) (x : ℕ) → Says (UpperStep (parent t) (path t) (upper t) x) (is_upper t x)
says_upper t x = go (says_eqb (parent t x) none)
  where
    Step : Type 0
    Step = UpperStep (parent t) (path t) (upper t) x

    below : {b : Bool} → parent t x ≢ none → Says (Apex (parent t) (path t) (parent t x)) b → Says Step (eqb (upper t x) (pick b (parent t x) (upper t (parent t x))))
    below d (holds a) = says_map
        (λ e. record { root = λ z. absurd (d z); apex = λ _ _. e; along = λ _ o. absurd (not_apex o a) })
        (λ s. s.apex d a)
        (says_eqb (upper t x) (parent t x))
    below d (fails n) = says_map
        (λ e. record { root = λ z. absurd (d z); apex = λ _ a. absurd (n a); along = λ _ _. e })
        (λ s. s.along d (elim (apex_or (parent t) (path t) (parent t x)) [ inl a ↦ absurd (n a) | inr o ↦ o ]))
        (says_eqb (upper t x) (upper t (parent t x)))

    go : {b : Bool} → Says (parent t x ≡ none) b → Says Step (eqb (upper t x) (pick b none (upper_through t (parent t x))))
    go (holds e) = says_map
        (λ z. record { root = λ _. z; apex = λ d. absurd (d e); along = λ d. absurd (d e) })
        (λ s. s.root e)
        (says_eqb (upper t x) none)
    go (fails d) = below d (says_is_apex (parent t) (path t) (parent t x))

module _ (t : Layer) (f : Forest (parent t) (depth t) t.count) where
  uppers : Each t (Upper t) → Uppers (parent t) (path t) (upper t) t.count
  uppers u = record { root = λ x l. (u x l).root; first = λ x l. (u x l).first }

  pub upper_forest : Each t (Upper t) → Forest (upper t) (depth t) t.count
  upper_forest u = compressed_forest f (uppers u)

  upper_step : Each t (Upper t) → Each t (UpperStep (parent t) (path t) (upper t))
  upper_step u = to_step f (uppers u)

  step_upper : Each t (UpperStep (parent t) (path t) (upper t)) → Each t (Upper t)
  step_upper s = let c = from_step f s in λ x l. record { root = c.root x l; first = c.first x l }

  says_paths : Says (Each t (PathLink t) × Each t (Upper t)) (are_linked t)
  says_paths = says_map
      (λ h. (λ x l. (h x l).0, step_upper (λ x l. (h x l).1)))
      (λ h x l. (h.0 x l, upper_step h.1 x l))
      (says_all (λ x. is_path t x && is_upper t x) t.count (λ x l. says_and (says_path t x) (λ _. says_upper t x)))

  -- the compressed tree, from the test
  pub linked_forest : are_linked t ≡ true → Forest (upper t) (depth t) t.count
  linked_forest e = upper_forest (says_get says_paths e).1

-- Sizes ------------------------------------------------------------------------

-- sizes that are one more than those of the children are the true ones
pub size_unique : {up rank s : ℕ → ℕ} {n : ℕ} → Forest up rank n → ((x : ℕ) → x < n → s x ≡ 1 + child_sum up s n x)
    → (x : ℕ) → x < n → s x ≡ size_in up rank n x
size_unique {up} {rank} {s} {n} f h = by_measure (size_in up rank n) (λ x. x < n → s x ≡ size_in up rank n x) step
  where
    step : (x : ℕ) → ((y : ℕ) → size_in up rank n y < size_in up rank n x → y < n → s y ≡ size_in up rank n y) → x < n → s x ≡ size_in up rank n x
    step x ih l = omega (
      arith,
      h x l,
      size_children f x l,
      child_sum_same {up = up} {up' = up} {f = s} {g = size_in up rank n} {u = x} n (λ w j. record {
        stays = λ e. e;
        comes = λ e. e;
        weighs = λ e. ih w (omega (arith, size_children f x l, child_sum_one up n x (size_in up rank n) w j e)) j;
      }),
    )

says_sizes : (t : Layer) → Forest (upper t) (depth t) t.count → Says (Each t (Size t)) (all_to (is_size t) t.count)
says_sizes t f = says_map (size_unique f) back (says_all (is_size t) t.count (λ x l. says_eqb (size t x) (1 + child_sum (upper t) (size t) t.count x)))
  where
    back : Each t (Size t) → (x : ℕ) → x < t.count → size t x ≡ 1 + child_sum (upper t) (size t) t.count x
    back h x l =
        let true_size : ℕ → ℕ = size_in (upper t) (depth t) t.count in
        omega (
          arith,
          h x l,
          size_children f x l,
          child_sum_same {up = upper t} {up' = upper t} {f = size t} {g = true_size} {u = x} t.count (λ w j. record {
            stays = λ e. e;
            comes = λ e. e;
            weighs = λ e. h w j;
          }),
        )

-- Rule 2 -----------------------------------------------------------------------

pub says_compressed : (t : Layer) → Forest (parent t) (depth t) t.count → Says (Compressed t) (is_compressed t)
unfolding is_compressed
says_compressed t f = says_map
    (λ h. record { path = h.0.0; upper = h.0.1; size = h.1 })
    (λ c. ((c.path, c.upper), c.size))
    (says_and (says_paths t f) (λ h. says_sizes t (upper_forest t f h.1)))
