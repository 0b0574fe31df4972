-- Two layers that agree in the rows of a step give that step the same outcome.
use Rattle.std.specs.Prelude.{◌≡◌, refl, Bool, ◌||◌, ◌&&◌, ℕ, Option, Some, None, IfSome, option_and_then, eqb, ltb, leb}
use Rattle.std.proofs.Common.{ap, ◌∙◌}
use Rattle.std.proofs.Math.Bool.{true, false, not}
use Rattle.laws.specs.Test.{pick}
use Rattle.tree_laws.specs.Ancestor.{none}
use Rattle.tree_laws.specs.Compressed.{is_apex}
use Rattle.tree_laws.specs.StoredFromCompressed.{path_row, higher, branch_at}
use Rattle.span.specs.Numbers.{reach_of}
use Rattle.layer.specs.declared.row.Row.{Row}
use Rattle.layer.specs.Checked.{is_row}
use Rattle.ancestry.specs.declared.compressed.Side.{Side}
use Rattle.ancestry.specs.declared.stored.Fork.{Fork}
use Rattle.ancestry.specs.Reading.{covers}
use Rattle.ancestry.specs.CompressedStep.{arrive, climb, at_entry, past_entry, past_reach, past_span, side_from}
use Rattle.ancestry.specs.StoredAnswer.{forked, path_row_of, meeting, branch_of, parents, paths, depths, is_on_row, join, joined}

-- the row of a side and the one below it, and none where there is no side
abbrev pub row_of_side : Option Side → ℕ
row_of_side (Some s) = s.row
row_of_side None = none

abbrev pub below_of_side : Option Side → ℕ
below_of_side (Some s) = s.below
below_of_side None = none

-- both rows of a side are of this kind
pub record Both (P : ℕ → Type 0) (s : Side) : Type 0 where
  pub row : P s.row
  pub below : P s.below

pub is_row_same : (n : ℕ) (row other : ℕ → Row) {v : ℕ} → row v ≡ other v → is_row n row v ≡ is_row n other v
unfolding is_row
is_row_same n row other g = rw g

-- rows of the kind P are the same in both layers
module _ (n : ℕ) (row other : ℕ → Row) (P : ℕ → Type 0) (same : (v : ℕ) → P v → row v ≡ other v) where
  -- the compressed step

  arrive_same : (v b : ℕ) → P v → arrive n row v b ≡ arrive n other v b
  unfolding arrive
  arrive_same v b g = rw (is_row_same n row other (same v g))

  arrive_both : (v b : ℕ) → P v → P b → IfSome (arrive n row v b) (Both P)
  unfolding arrive
  arrive_both v b g h = go (is_row n row v)
    where
      go : (c : Bool) → IfSome (pick c (Some record { row = v; below = b }) None) (Both P)
      go true = record { row = g; below = h }
      go false = tt

  climb_same : (stay : Bool) (s : Side) → Both P s → P (row s.row).upper → climb n row stay s ≡ climb n other stay s
  unfolding climb
  climb_same stay s h g =
      ap (λ c. pick stay (Some s) c) (arrive_same (row s.row).upper s.row g)
      ∙ ap (λ (r : Row). pick stay (Some s) (arrive n other r.upper s.row)) (same s.row h.row)

  climb_both : (stay : Bool) (s : Side) → Both P s → P (row s.row).upper → IfSome (climb n row stay s) (Both P)
  unfolding climb
  climb_both true s h g = h
  climb_both false s h g = arrive_both (row s.row).upper s.row g h.row

  -- where no entry is none, it is met
  at_entry_same : (e z : ℕ) → P e → at_entry n row e z ≡ at_entry n other e z
  unfolding at_entry
  at_entry_same e z g = rw (arrive_same e e g)

  at_entry_both : (e z : ℕ) → P z → P e → IfSome (at_entry n row e z) (Both P)
  unfolding at_entry
  at_entry_both e z h g = go (eqb e none)
    where
      go : (b : Bool) → IfSome (pick b (Some record { row = z; below = z }) (arrive n row e e)) (Both P)
      go true = record { row = h; below = h }
      go false = arrive_both e e g g

  reach_both : (d : ℕ) (s : Side) → Both P s → P (row s.row).upper → IfSome (past_reach n row d s) (Both P)
  unfolding past_reach
  reach_both d s h g = climb_both (ltb d (reach_of (row s.row).set_size)) s h g

  reach_same : (d : ℕ) (s : Side) → Both P s → P (row s.row).upper → past_reach n row d s ≡ past_reach n other d s
  unfolding past_reach
  reach_same d s h g =
      climb_same (ltb d (reach_of (row s.row).set_size)) s h g ∙ ap (λ (r : Row). climb n other (ltb d (reach_of r.set_size)) s) (same s.row h.row)

  span_both : (o : ℕ) (s : Side) → Both P s → P (row s.row).upper → IfSome (past_span n row o s) (Both P)
  unfolding past_span
  span_both o s h g = climb_both (covers (row s.row) o) s h g

  span_same : (o : ℕ) (s : Side) → Both P s → P (row s.row).upper → past_span n row o s ≡ past_span n other o s
  unfolding past_span
  span_same o s h g = climb_same (covers (row s.row) o) s h g ∙ ap (λ (r : Row). climb n other (covers r o) s) (same s.row h.row)

  -- a step from a side, where there is one
  step_both : (step : Side → Option Side) → ((s : Side) → Both P s → P (row s.row).upper → IfSome (step s) (Both P))
      → (o : Option Side) → IfSome o (Both P) → P (row (row_of_side o)).upper → IfSome (option_and_then step o) (Both P)
  step_both step f None h g = tt
  step_both step f (Some s) h g = f s h g

  step_same : (here there : Side → Option Side) → ((s : Side) → Both P s → P (row s.row).upper → here s ≡ there s)
      → (o : Option Side) → IfSome o (Both P) → P (row (row_of_side o)).upper → option_and_then here o ≡ option_and_then there o
  step_same here there f None h g = refl
  step_same here there f (Some s) h g = f s h g

  -- the step of one side, by the rows that it may meet
  module _ (e d o z : ℕ) (gz : P z) (g0 : P e) (g1 : P (row (row_of_side (at_entry n row e z))).upper)
      (g2 : P (row (row_of_side (past_entry n row e z))).upper)
      (g3 : P (row (row_of_side (option_and_then (past_reach n row d) (past_entry n row e z)))).upper) where
    entry_both : IfSome (past_entry n row e z) (Both P)
    unfolding past_entry
    entry_both = step_both (climb n row (eqb e none)) (climb_both (eqb e none)) (at_entry n row e z) (at_entry_both e z gz g0) g1

    entry_same : past_entry n row e z ≡ past_entry n other e z
    unfolding past_entry
    entry_same =
        step_same (climb n row (eqb e none)) (climb n other (eqb e none)) (climb_same (eqb e none)) (at_entry n row e z) (at_entry_both e z gz g0) g1
        ∙ ap (option_and_then (climb n other (eqb e none))) (at_entry_same e z g0)

    past_reach_both : IfSome (option_and_then (past_reach n row d) (past_entry n row e z)) (Both P)
    past_reach_both = step_both (past_reach n row d) (reach_both d) (past_entry n row e z) entry_both g2

    past_reach_same : option_and_then (past_reach n row d) (past_entry n row e z) ≡ option_and_then (past_reach n other d) (past_entry n other e z)
    past_reach_same =
        step_same (past_reach n row d) (past_reach n other d) (reach_same d) (past_entry n row e z) entry_both g2
        ∙ ap (option_and_then (past_reach n other d)) entry_same

    pub side_both : IfSome (side_from n row e d o z) (Both P)
    unfolding side_from
    side_both = step_both (past_span n row o) (span_both o) (option_and_then (past_reach n row d) (past_entry n row e z)) past_reach_both g3

    pub side_same : side_from n row e d o z ≡ side_from n other e d o z
    unfolding side_from
    side_same =
        step_same (past_span n row o) (past_span n other o) (span_same o) (option_and_then (past_reach n row d) (past_entry n row e z)) past_reach_both g3
        ∙ ap (option_and_then (past_span n other o)) past_reach_same

  -- the stored answer

  row_on : (ℕ → Row) → Side → ℕ
  row_on r = path_row_of (parents r) (paths r) (depths r)

  path_row_same : (s : Side) → Both P s → P (row s.below).parent → row_on row s ≡ row_on other s
  unfolding path_row is_apex row_on
  path_row_same s h g = rw (← ap (λ (r : Row). r.parent) (same s.below h.below), ← ap (λ (r : Row). r.path) (same (row s.below).parent g))

  path_row_kind : (s : Side) → Both P s → P (row s.below).parent → P (row_on row s)
  unfolding path_row row_on
  path_row_kind s h g = go (eqb s.below s.row || not (is_apex (parents row) (paths row) s.below))
    where
      go : (b : Bool) → P (pick b s.below (row s.below).parent)
      go true = h.below
      go false = g

  on_row_same : (s : Side) → Both P s → P (row s.below).parent → is_on_row n row s ≡ is_on_row n other s
  unfolding is_on_row
  on_row_same s h g = rw (← ap (λ (r : Row). r.parent) (same s.below h.below), is_row_same n row other (same (row s.below).parent g))

  module _ (c k : Side) (hc : Both P c) (hk : Both P k) (gc : P (row c.below).parent) (gk : P (row k.below).parent) where
    meeting_kind : P (meeting (parents row) (paths row) (depths row) c k)
    unfolding meeting higher row_on
    meeting_kind = go (leb (row (row_on row c)).depth (row (row_on row k)).depth)
      where
        go : (b : Bool) → P (pick b (row_on row c) (row_on row k))
        go true = path_row_kind c hc gc
        go false = path_row_kind k hk gk

    meeting_same : meeting (parents row) (paths row) (depths row) c k ≡ meeting (parents other) (paths other) (depths other) c k
    unfolding meeting higher row_on
    meeting_same = rw (
      ap (λ (r : Row). r.depth) (same (row_on row c) (path_row_kind c hc gc)),
      ap (λ (r : Row). r.depth) (same (row_on row k) (path_row_kind k hk gk)),
      path_row_same c hc gc,
      path_row_same k hk gk,
    )

    branch_same : (s : Side) → Both P s → P (row s.below).parent
        → branch_of (parents row) (paths row) (depths row) c k s ≡ branch_of (parents other) (paths other) (depths other) c k s
    unfolding branch_of branch_at row_on
    branch_same s h g =
        rw (ap (λ (r : Row). r.path) (same (meeting (parents row) (paths row) (depths row) c k) meeting_kind), meeting_same, path_row_same s h g)

    join_kind : IfSome (join n row c k) (λ f. P f.nca)
    unfolding join forked
    join_kind = go (is_on_row n row c && is_on_row n row k) _ _ _ _ meeting_kind
      where
        go : (b d : Bool) (a u v : ℕ) → P a → IfSome {T = Fork} (pick b (pick d None (Some record { nca = a; to_x = u; to_y = v })) None) (λ f. P f.nca)
        go true true a u v g = tt
        go true false a u v g = g
        go false d a u v g = tt

    join_same : join n row c k ≡ join n other c k
    unfolding join
    join_same = rw (meeting_same, branch_same c hc gc, branch_same k hk gk, on_row_same c hc gc, on_row_same k hk gk)

  -- and from both sides, where they are found
  pub joined_same : (c k : Option Side) → IfSome c (Both P) → IfSome k (Both P) → P (row (below_of_side c)).parent → P (row (below_of_side k)).parent
      → joined n row c k ≡ joined n other c k
  joined_same None k hc hk gc gk = refl
  joined_same (Some c) None hc hk gc gk = refl
  joined_same (Some c) (Some k) hc hk gc gk = join_same c k hc hk gc gk

  pub joined_kind : (c k : Option Side) → IfSome c (Both P) → IfSome k (Both P) → P (row (below_of_side c)).parent → P (row (below_of_side k)).parent
      → IfSome (joined n row c k) (λ f. P f.nca)
  joined_kind None k hc hk gc gk = tt
  joined_kind (Some c) None hc hk gc gk = tt
  joined_kind (Some c) (Some k) hc hk gc gk = join_kind c k hc hk gc gk
