-- What is proved of `Levels`.
use Rattle.std.specs.Prelude.{◌≡◌, refl, Bool, true, false, ◌&&◌, ◌⊎◌, ◌≢◌, List, [], ◌∷◌, ◌++◌}
use Rattle.std.proofs.Common.{ap, sym, ◌∙◌}
use Rattle.std.proofs.Math.Logic.{inl, inr}
use Prim.Native.Nat.{ℕ, zero, suc, ◌+◌, ◌≤◌, ◌<◌}
use Rattle.std.proofs.Math.Decide.{ℕ_discrete}
use native.Mathlib.Omega.{arith}
use Rattle.std.proofs.Math.Dec.{eqb}
use Rattle.laws.specs.Test.{pick, Says, holds, fails, says_and, says_eqb, says_true, says_get}
use Rattle.tree_laws.specs.ChildLinks.{Member}
use Rattle.link_laws.specs.Order.{Rises}
use Rattle.link_laws.specs.Levels.{level_of, levels_from, rows_from}

-- One list

record Among (test : ℕ → Bool) (k m w : ℕ) : Type 0 where
  low : k ≤ w
  high : w < k + m
  passes : test w ≡ true

among_more : {test : ℕ → Bool} {k m w : ℕ} → Among test (suc k) m w → Among test k (suc m) w
among_more a = record { low = omega (arith, a.low); high = omega (arith, a.high); passes = a.passes }

rows_among : (test : ℕ → Bool) (k m w : ℕ) → Member (rows_from test k m) w → Among test k m w
rows_among test k zero w i = absurd i
rows_among test k (suc m) w i = go (test k) refl (rows_among test (suc k) m w) i
  where
    go : (b : Bool) → test k ≡ b → (Member (rows_from test (suc k) m) w → Among test (suc k) m w)
        → Member (pick b (k ∷ rows_from test (suc k) m) (rows_from test (suc k) m)) w → Among test k (suc m) w
    go true e f (inl z) = rw z record { low = omega arith; high = omega arith; passes = e }
    go true e f (inr j) = among_more (f j)
    go false e f j = among_more (f j)

pub rows_low : (test : ℕ → Bool) (k m w : ℕ) → Member (rows_from test k m) w → k ≤ w
rows_low test k m w i = (rows_among test k m w i).low

among_rows : (test : ℕ → Bool) (k m w : ℕ) → Among test k m w → Member (rows_from test k m) w
among_rows test k zero w a = absurd (omega (arith, a.low, a.high))
among_rows test k (suc m) w a = go (test k) refl (λ n. among_rows test (suc k) m w record { low = omega (arith, a.low); high = omega (arith, a.high); passes = a.passes })
  where
    go : (b : Bool) → test k ≡ b → (w ≢ k → Member (rows_from test (suc k) m) w) → Member (pick b (k ∷ rows_from test (suc k) m) (rows_from test (suc k) m)) w
    go true e f = elim (ℕ_discrete w k) [ yes z ↦ inl z | no n ↦ inr (f n) ]
    go false e f = f (λ z. let y : true ≡ false = sym a.passes ∙ ap test z ∙ e in let v : ◌≡◌ {A = ℕ} 0 1 = cc in omega arith)

rows_rise : {P : ℕ → ℕ → Type 0} (test : ℕ → Bool) (k m : ℕ) → ((w y : ℕ) → Among test k m w → Among test k m y → w < y → P w y) → Rises P (rows_from test k m)
rows_rise test k zero h = tt
rows_rise {P} test k (suc m) h = go (test k) refl (rows_rise test (suc k) m (λ w y a b. h w y (among_more a) (among_more b)))
  where
    go : (b : Bool) → test k ≡ b → Rises P (rows_from test (suc k) m) → Rises P (pick b (k ∷ rows_from test (suc k) m) (rows_from test (suc k) m))
    go true e r = (λ y i. let a = rows_among test (suc k) m y i in h k y record { low = omega arith; high = omega arith; passes = e } (among_more a) (omega (arith, a.low)), r)
    go false e r = r

-- Lists one after the other

member_left : (xs ys : List ℕ) (w : ℕ) → Member xs w → Member (xs ++ ys) w
member_left [] ys w i = absurd i
member_left (x ∷ xs) ys w (inl e) = inl e
member_left (x ∷ xs) ys w (inr i) = inr (member_left xs ys w i)

member_right : (xs ys : List ℕ) (w : ℕ) → Member ys w → Member (xs ++ ys) w
member_right [] ys w i = i
member_right (x ∷ xs) ys w i = inr (member_right xs ys w i)

member_either : (xs ys : List ℕ) (w : ℕ) → Member (xs ++ ys) w → Member xs w ⊎ Member ys w
member_either [] ys w i = inr i
member_either (x ∷ xs) ys w (inl e) = inl (inl e)
member_either (x ∷ xs) ys w (inr i) = elim (member_either xs ys w i) [ inl j ↦ inl (inr j) | inr j ↦ inr j ]

rises_both : {P : ℕ → ℕ → Type 0} (xs ys : List ℕ) → Rises P xs → Rises P ys → ((w y : ℕ) → Member xs w → Member ys y → P w y) → Rises P (xs ++ ys)
rises_both [] ys p q h = q
rises_both (x ∷ xs) ys p q h =
    (λ y i. elim (member_either xs ys y i) [ inl j ↦ p.0 y j | inr j ↦ h x y (inl refl) j ], rises_both xs ys p.1 q (λ w y i j. h w y (inr i) j))

-- All levels

module _ (member : ℕ → Bool) (key : ℕ → ℕ) (n : ℕ) where
  pub record Of (d m w : ℕ) : Type 0 where
    pub inside : w < n
    pub picked : member w ≡ true
    pub low : d ≤ key w
    pub high : key w < d + m

  says_level : (d w : ℕ) → Says ((member w ≡ true) × (key w ≡ d)) (member w && eqb (key w) d)
  says_level d w = says_and (says_bool (member w)) (λ _. says_eqb (key w) d)
    where
      says_bool : (b : Bool) → Says (b ≡ true) b
      says_bool true = holds refl
      says_bool false = fails (λ e. let y : ◌≡◌ {A = ℕ} 0 1 = cc in omega arith)

  pub level_of_lem : (d w : ℕ) → Member (level_of member key n d) w → Of d 1 w
  level_of_lem d w i =
      let a = rows_among (λ w. member w && eqb (key w) d) 0 n w i in
      let b = says_get (says_level d w) a.passes in
      record { inside = omega (arith, a.high); picked = b.0; low = omega (arith, b.1); high = omega (arith, b.1) }

  of_level : (d w : ℕ) → w < n → member w ≡ true → key w ≡ d → Member (level_of member key n d) w
  of_level d w l e f = among_rows (λ w. member w && eqb (key w) d) 0 n w record { low = omega arith; high = omega arith; passes = says_true (says_level d w) (e, f) }

  pub levels_of : (d m w : ℕ) → Member (levels_from member key n d m) w → Of d m w
  unfolding levels_from
  levels_of d zero w i = absurd i
  levels_of d (suc m) w i = elim (member_either (level_of member key n d) (levels_from member key n (suc d) m) w i) [
    | inl j ↦ let a = level_of_lem d w j in record { inside = a.inside; picked = a.picked; low = a.low; high = omega (arith, a.high) }
    | inr j ↦ let a = levels_of (suc d) m w j in record { inside = a.inside; picked = a.picked; low = omega (arith, a.low); high = omega (arith, a.high) }
  ]

  pub of_levels : (d m w : ℕ) → Of d m w → Member (levels_from member key n d m) w
  unfolding levels_from
  of_levels d zero w a = absurd (omega (arith, a.low, a.high))
  of_levels d (suc m) w a = elim (ℕ_discrete (key w) d) [
    | yes e ↦ member_left (level_of member key n d) (levels_from member key n (suc d) m) w (of_level d w a.inside a.picked e)
    | no z ↦ member_right (level_of member key n d) (levels_from member key n (suc d) m) w
        (of_levels (suc d) m w record { inside = a.inside; picked = a.picked; low = omega (arith, a.low); high = omega (arith, a.high) })
  ]

  -- a relation that holds from level to level, and within a level by rising number, holds along the list
  pub levels_rise : {P : ℕ → ℕ → Type 0} → ((w y d e : ℕ) → Of d 1 w → Of e 1 y → (d < e) ⊎ ((d ≡ e) × (w < y)) → P w y) → (d m : ℕ) → Rises P (levels_from member key n d m)
  unfolding levels_from
  levels_rise h d zero = tt
  levels_rise h d (suc m) =
      rises_both (level_of member key n d) (levels_from member key n (suc d) m)
      (rows_rise (λ w. member w && eqb (key w) d) 0 n (λ w y a b l. h w y d d (level_of_lem d w (row_level d w a)) (level_of_lem d y (row_level d y b)) (inr (refl, l))))
      (levels_rise h (suc d) m)
      (λ w y i j. let b = levels_of (suc d) m y j in
      h w y d (key y) (level_of_lem d w i) record { inside = b.inside; picked = b.picked; low = omega arith; high = omega arith } (inl (omega (arith, b.low))))
    where
      row_level : (d w : ℕ) → Among (λ w. member w && eqb (key w) d) 0 n w → Member (level_of member key n d) w
      row_level d w a = among_rows (λ w. member w && eqb (key w) d) 0 n w a
