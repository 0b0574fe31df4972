-- The walk up the chain finds its highest row that has outgrown its set size.
use Rattle.std.specs.Prelude.{◌≡◌, refl, Bool, true, false, ◌≢◌, List, ℕ, zero, suc, ◌<◌, eqb, Option, Some}
use Rattle.std.proofs.Common.{ap, ◌∙◌, arith, ne_eqb}
use Rattle.std.proofs.Math.Decide.{ℕ_discrete}
use Rattle.laws.specs.Test.{Says, pick}
use Rattle.tree_laws.specs.Ancestor.{none, Forest}
use Rattle.tree_laws.specs.AncestorLaws.{row_some}
use Rattle.tree_laws.specs.Highest.{Highest, highest_from}
use Rattle.tree_laws.specs.HighestLaws.{highest_root, highest_below}
use Rattle.layer.specs.Layout.{upper_place}
use Rattle.layer.specs.Row.{field_at, row_of}
use Rattle.layer.specs.Checked.{is_row}
use Rattle.join.specs.Chain.{outgrown_at, top_from}
use Rattle.join.specs.ChainLaws.{top_stop, top_on}

-- the highest row from u up that has P, and what the walk that has `top` already ends with
pub record Found (up : ℕ → ℕ) (P : ℕ → Type 0) (u top : ℕ) (r : Option ℕ) : Type 0 where
  pub row : ℕ
  pub is : Highest up P u row
  pub found : r ≡ Some (pick (eqb row none) top row)

module _ {up rank : ℕ → ℕ} {n : ℕ} {In : ℕ → Type 0} (t : Forest up rank n) (in_use : (y : ℕ) → In y → y < n)
    (closed : (y : ℕ) → In y → up y ≢ none → In (up y)) (k : ℕ) (f m : List ℕ) (uppers : (y : ℕ) → In y → field_at f y upper_place ≡ up y)
    (good : (y : ℕ) → In y → is_row k (row_of f m) y ≡ true) {P : ℕ → Type 0} (says : (y : ℕ) → y < n → Says (P y) (outgrown_at f y)) where
  -- so much fuel finds the top of each chain that it reaches the end of
  abbrev Finds : ℕ → Type 0
  Finds fuel = (u top : ℕ) → In u → rank u < fuel → Found up P u top (top_from fuel f m k u top)

  on : (fuel u top : ℕ) → In u → top_from (suc fuel) f m k u top ≡ top_from fuel f m k (up u) (pick (outgrown_at f u) u top)
  on fuel u top i = top_on f m k u top (suc fuel) fuel refl (row_some t (in_use u i) refl) (good u i) ∙ rw (uppers u i) refl

  -- the row u itself, where no row above it has P
  itself : (u top : ℕ) → In u → (b : Bool) → pick b u top ≡ pick (eqb (pick b u none) none) top (pick b u none)
  itself u top i true = rw (ne_eqb u none (row_some t (in_use u i) refl)) refl
  itself u top i false = refl

  step : (fuel : ℕ) → Finds fuel → Finds (suc fuel)
  step fuel more u top i r = elim (ℕ_discrete (up u) none) [
    | yes e ↦ record {
      row = highest_from (outgrown_at f) none u;
      is = highest_root t (outgrown_at f) says u (in_use u i) e;
      found = on fuel u top i ∙ top_stop f m k (up u) (pick (outgrown_at f u) u top) fuel e ∙ ap Some (itself u top i (outgrown_at f u));
    }
    | no d ↦
        let b = more (up u) (pick (outgrown_at f u) u top) (closed u i d) (omega (arith, t.falls u (in_use u i) d)) in
        record {
          row = highest_from (outgrown_at f) b.row u;
          is = highest_below t (outgrown_at f) says (in_use u i) d b.is;
          found = on fuel u top i ∙ b.found ∙ ap Some (joined b.row (ℕ_discrete b.row none));
        }
  ]
    where
      joined : (a : ℕ) → Dec (a ≡ none) → pick (eqb a none) (pick (outgrown_at f u) u top) a
          ≡ pick (eqb (highest_from (outgrown_at f) a u) none) top (highest_from (outgrown_at f) a u)
      joined a (yes e) = rw e (itself u top i (outgrown_at f u))
      joined a (no d) = rw (ne_eqb a none d, ne_eqb a none d) refl

  pub find : (fuel : ℕ) → Finds fuel
  find zero u top i r = absurd (omega arith)
  find (suc fuel) u top i r = step fuel (find fuel) u top i r
