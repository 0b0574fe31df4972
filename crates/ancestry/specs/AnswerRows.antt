-- On every layer the row that a stored answer names was read, and those of a side: they are in use and sound.
use Rattle.std.specs.Prelude.{◌≡◌, refl, Bool, ◌||◌, ◌&&◌, ℕ, Option, Some, None, IfSome, option_and_then, eqb, leb, ltb}
use Rattle.std.proofs.Math.Bool.{true, false, not}
use Rattle.std.proofs.Common.{arith}
use Rattle.laws.specs.Test.{pick}
use Rattle.tree_laws.specs.Ancestor.{none}
use Rattle.tree_laws.specs.Compressed.{is_apex}
use Rattle.tree_laws.specs.StoredFromCompressed.{path_row, higher}
use Rattle.span.specs.Numbers.{reach_of}
use Rattle.layer.specs.declared.row.Row.{Row}
use Rattle.layer.specs.Layer.{Layer}
use Rattle.layer.specs.Spans.{p}
use Rattle.layer.specs.Checked.{IsRow, is_row}
use Rattle.layer.specs.CheckedLaws.{is_row_lem}
use Rattle.ancestry.specs.declared.compressed.Side.{Side}
use Rattle.ancestry.specs.declared.stored.Fork.{Fork}
use Rattle.ancestry.specs.Reading.{covers}
use Rattle.ancestry.specs.CompressedStep.{arrive, climb, at_entry, past_entry, past_reach, past_span, side_from}
use Rattle.ancestry.specs.StoredAnswer.{Asked, forked, alone, path_row_of, meeting, met, parents, paths, depths, is_on_row, join, joined, stored_from, stored_answer}

-- both rows of a side are rows in use and sound
pub record SideRows (n : ℕ) (rows : ℕ → Row) (s : Side) : Type 0 where
  pub row : IsRow n rows s.row
  pub below : IsRow n rows s.below

-- what holds of a value that is found holds of what the next step finds
pub if_then : {A B : Type 0} (f : A → Option B) (o : Option A) (P : A → Type 0) (Q : B → Type 0) → IfSome o P → ((x : A) → P x → IfSome (f x) Q)
    → IfSome (option_and_then f o) Q
if_then f None P Q h k = tt
if_then f (Some x) P Q h k = k x h

-- and of the value itself
pub if_some : {A : Type 0} {o : Option A} {x : A} (P : A → Type 0) → Some x ≡ o → IfSome o P → P x
if_some P e h = rw (← e) at h

module _ (n : ℕ) (row : ℕ → Row) where
  arrive_rows : (v b : ℕ) → IsRow n row b → IfSome (arrive n row v b) (SideRows n row)
  unfolding arrive
  arrive_rows v b h = go (is_row n row v) refl
    where
      go : (c : Bool) → is_row n row v ≡ c → IfSome (pick c (Some record { row = v; below = b }) None) (SideRows n row)
      go true e = record { row = is_row_lem n row v e; below = h }
      go false e = tt

  -- a row is met from itself
  arrive_itself : (v : ℕ) → IfSome (arrive n row v v) (SideRows n row)
  unfolding arrive
  arrive_itself v = go (is_row n row v) refl
    where
      go : (c : Bool) → is_row n row v ≡ c → IfSome (pick c (Some record { row = v; below = v }) None) (SideRows n row)
      go true e = record { row = is_row_lem n row v e; below = is_row_lem n row v e }
      go false e = tt

  pub arrive_row : (v : ℕ) {s : Side} → Some s ≡ arrive n row v v → IsRow n row v
  unfolding arrive
  arrive_row v = go (is_row n row v) refl
    where
      go : (c : Bool) {s : Side} → is_row n row v ≡ c → Some s ≡ pick c (Some record { row = v; below = v }) None → IsRow n row v
      go true e i = is_row_lem n row v e
      go false e i = let z : ◌≡◌ {A = ℕ} 0 1 = cc in absurd (omega arith)

  climb_rows : (stay : Bool) (s : Side) → SideRows n row s → IfSome (climb n row stay s) (SideRows n row)
  unfolding climb
  climb_rows true s h = h
  climb_rows false s h = arrive_rows (row s.row).upper s.row h.row

  at_entry_rows : (e z : ℕ) → IsRow n row z → IfSome (at_entry n row e z) (SideRows n row)
  unfolding at_entry
  at_entry_rows e z h = go (eqb e none)
    where
      go : (b : Bool) → IfSome (pick b (Some record { row = z; below = z }) (arrive n row e e)) (SideRows n row)
      go true = record { row = h; below = h }
      go false = arrive_itself e

  -- the rows of a side, after each of its steps
  pub past_entry_rows : (e z : ℕ) → IsRow n row z → IfSome (past_entry n row e z) (SideRows n row)
  unfolding past_entry
  past_entry_rows e z h =
      if_then (climb n row (eqb e none)) (at_entry n row e z) (SideRows n row) (SideRows n row) (at_entry_rows e z h) (climb_rows (eqb e none))

  pub past_reach_rows : (d : ℕ) (s : Side) → SideRows n row s → IfSome (past_reach n row d s) (SideRows n row)
  unfolding past_reach
  past_reach_rows d s h = climb_rows (ltb d (reach_of (row s.row).set_size)) s h

  past_span_rows : (o : ℕ) (s : Side) → SideRows n row s → IfSome (past_span n row o s) (SideRows n row)
  unfolding past_span
  past_span_rows o s h = climb_rows (covers (row s.row) o) s h

  pub side_rows : (e d o z : ℕ) → IsRow n row z → IfSome (side_from n row e d o z) (SideRows n row)
  unfolding side_from
  side_rows e d o z h =
      if_then (past_span n row o) (option_and_then (past_reach n row d) (past_entry n row e z)) (SideRows n row) (SideRows n row)
      (if_then (past_reach n row d) (past_entry n row e z) (SideRows n row) (SideRows n row) (past_entry_rows e z h) (past_reach_rows d))
      (past_span_rows o)

  path_row_row : (s : Side) → SideRows n row s → is_on_row n row s ≡ true → IsRow n row (path_row_of (parents row) (paths row) (depths row) s)
  unfolding is_on_row path_row
  path_row_row s h = go (eqb s.below s.row) (is_apex (parents row) (paths row) s.below)
    where
      go : (b a : Bool) → b || is_row n row (row s.below).parent ≡ true → IsRow n row (pick (b || not a) s.below (row s.below).parent)
      go true a e = h.below
      go false true e = is_row_lem n row (row s.below).parent e
      go false false e = h.below

  meeting_row : (c k : Side) → SideRows n row c → SideRows n row k → is_on_row n row c ≡ true → is_on_row n row k ≡ true
      → IsRow n row (meeting (parents row) (paths row) (depths row) c k)
  unfolding meeting higher
  meeting_row c k f g i j = go (leb (row (path_row_of (parents row) (paths row) (depths row) c)).depth (row (path_row_of (parents row) (paths row) (depths row) k)).depth)
    where
      go : (b : Bool) → IsRow n row (pick b (path_row_of (parents row) (paths row) (depths row) c) (path_row_of (parents row) (paths row) (depths row) k))
      go true = path_row_row c f i
      go false = path_row_row k g j

  join_row : (c k : Side) → SideRows n row c → SideRows n row k → IfSome (join n row c k) (λ f. IsRow n row f.nca)
  unfolding join forked
  join_row c k f g = go (is_on_row n row c) (is_on_row n row k) refl refl
    where
      found : (a : ℕ) → IsRow n row a → (u v : ℕ) (b : Bool) → IfSome {T = Fork} (pick b None (Some record { nca = a; to_x = u; to_y = v })) (λ f. IsRow n row f.nca)
      found a h u v true = tt
      found a h u v false = h

      go : (a b : Bool) → is_on_row n row c ≡ a → is_on_row n row k ≡ b
          → IfSome (pick (a && b) (met (parents row) (paths row) (depths row) c k) None) (λ f. IsRow n row f.nca)
      go true true i j = found _ (meeting_row c k f g i j) _ _ _
      go true false i j = tt
      go false b i j = tt

  joined_row : (c k : Option Side) → IfSome c (SideRows n row) → IfSome k (SideRows n row) → IfSome (joined n row c k) (λ f. IsRow n row f.nca)
  joined_row None k f g = tt
  joined_row (Some c) None f g = tt
  joined_row (Some c) (Some k) f g = join_row c k f g

module _ (t : Layer) where
  stored_row : (m n x y : ℕ) → Asked t.count t.row x y → IfSome (stored_from t m n x y) (λ f. IsRow t.count t.row f.nca)
  unfolding stored_from
  stored_row m n x y h =
      go (eqb x y) (eqb m n) _ (joined_row t.count t.row _ _ (side_rows t.count t.row _ _ _ x h.left) (side_rows t.count t.row _ _ _ y h.right))
    where
      go : (b d : Bool) (f : Option Fork) → IfSome f (λ g. IsRow t.count t.row g.nca)
          → IfSome (pick b (Some (alone x)) (pick d None f)) (λ g. IsRow t.count t.row g.nca)
      go true d f j = h.left
      go false true f j = tt
      go false false f j = j

  pub answer_row : (x y : ℕ) → Asked t.count t.row x y → IfSome (stored_answer t x y) (λ f. IsRow t.count t.row f.nca)
  answer_row x y h = stored_row (p t x) (p t y) x y h
