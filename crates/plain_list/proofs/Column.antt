-- A column is a list of one number to each of n nodes, their parents, labels or faces. Where f gives its numbers, f' gives those of the column that follows: with
-- one number more, or with another number at one node. What stands past its end, d, plays no part.
use Rattle.std.specs.Prelude.{◌≡◌, refl, Bool, true, false, ◌&&◌, List, [], ◌∷◌, ◌++◌, ◌≢◌, ℕ, suc, ◌<◌, eqb, length, get_or, set}
use Rattle.std.proofs.Common.{sym, ◌∙◌, arith, length-append, length-set, get_or-set_same, get_or-set_other, eq-eqb, ne_eqb}
use Rattle.std.proofs.Math.Decide.{ℕ_discrete}
use Rattle.std.proofs.Math.ListN.{get_or-append}
use Rattle.std.proofs.lemmas.List.{get_or_at}
use Rattle.laws.specs.Test.{pick}

pub length_one_more : (l : List ℕ) (a : ℕ) → length (l ++ (a ∷ [])) ≡ suc (length l)
length_one_more l a = omega (arith, length-append l (a ∷ []))

pub length_named : (c : List ℕ) (r a : ℕ) (named : Bool) → length (pick named (set c r a) c) ≡ length c
length_named c r a true = length-set c r a
length_named c r a false = refl

module _ (d : ℕ) {n : ℕ} (c : List ℕ) (e : length c ≡ n) {f f' : ℕ → ℕ} (gives : (x : ℕ) → x < n → f x ≡ get_or c x d) where
  -- node n has a, the others keep theirs
  pub gives_more : {a : ℕ} → ((x : ℕ) → x < n → f' x ≡ f x) → f' n ≡ a → (x : ℕ) → x < suc n → f' x ≡ get_or (c ++ (a ∷ [])) x d
  gives_more {a} stay new x i = elim (ℕ_discrete x n) [
    | yes z ↦ rw z (new ∙ sym (get_or_at c a [] d n e))
    | no z ↦ let j : x < n = omega arith in stay x j ∙ gives x j ∙ sym (get_or-append c (a ∷ []) d x (omega arith))
  ]

  -- node r has a, the others keep theirs
  pub gives_set : {r a : ℕ} → f' r ≡ a → ((x : ℕ) → x < n → x ≢ r → f' x ≡ f x) → (x : ℕ) → x < n → f' x ≡ get_or (set c r a) x d
  gives_set {r} {a} new stay x i = elim (ℕ_discrete x r) [
    | yes z ↦ rw z (new ∙ sym (get_or-set_same c r a d (omega arith)))
    | no z ↦ stay x i z ∙ gives x i ∙ sym (get_or-set_other c r x a d z)
  ]

  -- node r has a where it is named, else all keep theirs
  pub gives_named : (r a : ℕ) (named : Bool) → ((x : ℕ) → x < n → f' x ≡ pick (named && eqb x r) a (f x)) → (x : ℕ) → x < n
      → f' x ≡ get_or (pick named (set c r a) c) x d
  gives_named r a true changed x i = changed x i ∙ elim (ℕ_discrete x r) [
    | yes z ↦ rw (z, eq-eqb r r refl) (sym (get_or-set_same c r a d (omega arith)))
    | no z ↦ rw (ne_eqb x r z) (gives x i ∙ sym (get_or-set_other c r x a d z))
  ]
  gives_named r a false changed x i = changed x i ∙ gives x i
