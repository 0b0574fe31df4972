-- Rows sorted by level in one pass from the last row down: one list for each level, whose head stands by the level and whose links stand by the row.
use Rattle.std.specs.Prelude.{◌≡◌, refl, Bool, true, false, ◌&&◌, ◌≢◌, ℕ, zero, suc, ◌+◌, ◌≤◌, ◌<◌, eqb}
use Rattle.std.proofs.Common.{sym, arith}
use Rattle.std.proofs.Math.Decide.{ℕ_discrete}
use Rattle.laws.specs.Test.{pick, says_true, says_false, says_eqb}
use Rattle.tree_laws.specs.Ancestor.{none}
use Rattle.tree_laws.specs.ChildLinks.{Chain, end, link}
use Rattle.tree_laws.specs.Chains.{chain_copy}
use Rattle.renumber_laws.specs.Column.{put}
use Rattle.renumber_laws.proofs.Column.{put_same, put_other}
use Rattle.link_laws.specs.Levels.{rows_from, level_of}
use Rattle.link_laws.proofs.Levels.{rows_low}

pub record Buckets : Type 0 where
  pub head : ℕ → ℕ
  pub next : ℕ → ℕ

module _ (member : ℕ → Bool) (key : ℕ → ℕ) where
  -- a row goes to the front of its level
  abbrev pub placed : ℕ → Buckets → Buckets
  placed w s = pick (member w) (record { head = put s.head (key w) w; next = put s.next w (s.head (key w)) }) s

  -- the rows below m, from the last one down
  abbrev pub sorted : ℕ → Buckets → Buckets
  sorted zero s = s
  sorted (suc m) s = sorted m (placed m s)

  abbrev at : ℕ → ℕ → Bool
  at d w = member w && eqb (key w) d

  -- the rows from i on stand in their lists
  record Stand (n i : ℕ) (s : Buckets) : Type 0 where
    lists : (d m : ℕ) → i + m ≡ n → Chain s.next (s.head d) (rows_from (at d) i m)

  module _ {n : ℕ} (small : n ≤ none) where
    stand_step : {i : ℕ} {s : Buckets} → i < n → Stand n (suc i) s → Stand n i (placed i s)
    unfolding put
    stand_step {i} {s} l a = record { lists = λ d m e. go d m e (member i) refl }
      where
        kept : (d k c : ℕ) → Chain s.next c (rows_from (at d) (suc i) k) → Chain (put s.next i (s.head (key i))) c (rows_from (at d) (suc i) k)
        kept d k c p = chain_copy (λ w j. put_other s.next i (s.head (key i)) w (λ z. omega (arith, rows_low (at d) (suc i) k w j))) p

        front : (d m : ℕ) → i + suc m ≡ n → member i ≡ true → d ≡ key i
            → Chain (put s.next i (s.head (key i))) (put s.head (key i) i d) (rows_from (at d) i (suc m))
        front d m e f z =
            let some : i ≢ none = λ y. omega arith in
            rw (f, says_true (says_eqb (key i) d) (sym z), says_true (says_eqb d (key i)) z) (link {xs = rows_from (at d) (suc i) m} some
            (rw (z, put_same s.next i (s.head (key i))) (kept (key i) m _ (a.lists (key i) m (omega arith)))))

        go : (d m : ℕ) → i + m ≡ n → (b : Bool) → member i ≡ b
            → Chain (pick b (record { head = put s.head (key i) i; next = put s.next i (s.head (key i)) }) s).next
            ((pick b (record { head = put s.head (key i) i; next = put s.next i (s.head (key i)) }) s).head d) (rows_from (at d) i m)
        go d zero e b f = absurd (omega arith)
        go d (suc m) e true f = elim (ℕ_discrete d (key i)) [
          | yes z ↦ front d m e f z
          | no y ↦ rw (f, says_false (says_eqb (key i) d) (λ z. y (sym z)), put_other s.head (key i) i d y)
              (kept d m _ (a.lists d m (omega arith)))
        ]
        go d (suc m) e false f = rw f (a.lists d m (omega arith))

    stand_all : (m : ℕ) (s : Buckets) → m ≤ n → Stand n m s → Stand n 0 (sorted m s)
    stand_all zero s l a = a
    stand_all (suc m) s l a = stand_all m (placed m s) (omega arith) (stand_step (omega arith) a)

    -- from heads that are none, every level's list stands
    pub sorted_levels : (s : Buckets) → ((d : ℕ) → s.head d ≡ none) → (d : ℕ) → Chain (sorted n s).next ((sorted n s).head d) (level_of member key n d)
    sorted_levels s h d = (stand_all n s (omega arith) record { lists = start }).lists d n (omega arith)
      where
        start : (d m : ℕ) → n + m ≡ n → Chain s.next (s.head d) (rows_from (at d) n m)
        start d zero e = end (h d)
        start d (suc m) e = absurd (omega arith)
