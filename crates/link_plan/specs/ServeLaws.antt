-- What the serving of a link tells: the tests that it passed.
use Rattle.std.proofs.Math.Path.{◌≡◌, refl}
use Rattle.std.proofs.Common.{sym, ◌∙◌, arith}
use Rattle.std.specs.Prelude.{Option, Some, None, Result, Ok, Err, Bool, true, false, not, List, ℕ, ◌≤◌, ◌<◌, eqb, ltb, length, get_or}
use Rattle.laws.specs.Test.{Says, says_eqb, says_ltb, says_not, says_and, says_get}
use Rattle.table.specs.declared.refusal.Refusal.TheVariants.{UnknownNode, Misfit, Corrupt, BadLabel, NotRoot, SameTree}
use Rattle.table.specs.declared.state.State.{State}
use Rattle.table.specs.Capacity.{node_limit, on_fit}
use Rattle.table.specs.Parts.{Parts}
use Rattle.table.specs.State.{is_standing}
use Rattle.table.proofs.StateLaws.{says_standing}
use Rattle.table.specs.Table.{table_of}
use Rattle.table.specs.Tree.{tree_at, root_at}
use Rattle.tree_laws.specs.Ancestor.{none}
use Rattle.layer.specs.Checked.{Holds}
use Rattle.inspect.specs.Inspects.{inspects}
use Rattle.growth_plan.specs.Plan.{is_label}
use Rattle.tally.specs.Layout.{tally_length}
use Rattle.tally.specs.Fit.{capacity_with}
use Rattle.tally.specs.FitLaws.{FitsWith, fits_with}
use Rattle.tally.specs.Count.{has_room, is_movable}
use Rattle.table.specs.declared.refusal.Refusal.{Refusal}
use Rattle.link_plan.specs.declared.Trees.{Trees}
use Rattle.link_plan.specs.Check.{provided, link_within, link_checked}

-- a call that is served passed the tests of the scratch, the count and the tally
served_tests : (a b d e g h i j l m o : Bool) (k : Result Trees Refusal) {t : Trees}
    → Ok t ≡ provided a Misfit (provided b UnknownNode (provided d UnknownNode (provided e BadLabel (provided g Corrupt (provided h Corrupt (provided i NotRoot (provided j Corrupt (provided l SameTree (provided m Corrupt (provided o Corrupt k))))))))))
    → (a ≡ true) × ((g ≡ true) × (o ≡ true))
served_tests true true true true true true true true true true true k q = (refl, (refl, refl))
served_tests false b d e g h i j l m o k q = let z : ◌≡◌ {A = ℕ} 0 1 = cc in absurd (omega arith)
served_tests true false d e g h i j l m o k q = let z : ◌≡◌ {A = ℕ} 0 1 = cc in absurd (omega arith)
served_tests true true false e g h i j l m o k q = let z : ◌≡◌ {A = ℕ} 0 1 = cc in absurd (omega arith)
served_tests true true true false g h i j l m o k q = let z : ◌≡◌ {A = ℕ} 0 1 = cc in absurd (omega arith)
served_tests true true true true false h i j l m o k q = let z : ◌≡◌ {A = ℕ} 0 1 = cc in absurd (omega arith)
served_tests true true true true true false i j l m o k q = let z : ◌≡◌ {A = ℕ} 0 1 = cc in absurd (omega arith)
served_tests true true true true true true false j l m o k q = let z : ◌≡◌ {A = ℕ} 0 1 = cc in absurd (omega arith)
served_tests true true true true true true true false l m o k q = let z : ◌≡◌ {A = ℕ} 0 1 = cc in absurd (omega arith)
served_tests true true true true true true true true false m o k q = let z : ◌≡◌ {A = ℕ} 0 1 = cc in absurd (omega arith)
served_tests true true true true true true true true true false o k q = let z : ◌≡◌ {A = ℕ} 0 1 = cc in absurd (omega arith)
served_tests true true true true true true true true true true false k q = let z : ◌≡◌ {A = ℕ} 0 1 = cc in absurd (omega arith)

-- the parts and the scratch fit a capacity, and hold all rows in use; the entries of the tally may change in 16 bits
pub record Ready (p : Parts) (w : List ℕ) (scratch n door : ℕ) : Type 0 where
  pub holds : Holds n p.fields p.numbers
  pub most : scratch ≤ node_limit
  pub tally : length w ≡ tally_length
  pub some : 1 ≤ get_or w 0 0
  pub few : get_or w door 0 < 65535

says_movable : (w : List ℕ) (c from to : ℕ) → Says ((get_or w from 0 ≡ 0 → ⊥) × (get_or w to 0 < c)) (is_movable w c from to)
unfolding is_movable has_room
says_movable w c from to = says_and (says_not (says_eqb (get_or w from 0) 0)) (λ _. says_ltb (get_or w to 0) c)

module _ (p : Parts) (w : List ℕ) (scratch : ℕ) (s : State) (x v door : ℕ) where
  ready_within : {c : ℕ} {t : Trees} → capacity_with p w ≡ Some c → Ok t ≡ link_within p w c scratch s x v door → Ready p w scratch s.count door
  unfolding link_within
  ready_within {c} f e =
      let n = s.count in
      let at_x = root_at p.fields p.ancestors n x in
      let at_v = tree_at p.ancestors n v in
      let q = served_tests (eqb scratch c) (ltb x n) (ltb v n) (is_label door) (is_standing c s) (not (eqb at_x none)) (eqb at_x x) (not (eqb at_v none))
      (not (eqb at_v (tree_at p.ancestors n x))) (inspects c (table_of p n) w) (is_movable w c 0 door) _ e in
      let fit : FitsWith c p w = fits_with p w c f in
      let l : s.count ≤ c = says_get (says_standing c s) q.1.0 in
      let same : scratch ≡ c = says_get (says_eqb scratch c) q.0 in
      let k = says_get (says_movable w c 0 door) q.1.1 in
      record {
        holds = record { fields = omega (arith, fit.parts.fields); numbers = omega (arith, fit.parts.numbers) };
        most = omega (arith, fit.parts.most);
        tally = fit.tally;
        some = omega (arith, k.0);
        few = omega (arith, fit.parts.most, k.1);
      }

  pub serve_ready : {r : Result Trees Refusal} {t : Trees} → r ≡ link_checked p w scratch s x v door → r ≡ Ok t → Ready p w scratch s.count door
  unfolding link_checked
  serve_ready {t = t} e h = go (capacity_with p w) refl (sym h ∙ e)
    where
      go : (f : Option ℕ) → capacity_with p w ≡ f → Ok t ≡ on_fit f (λ c. link_within p w c scratch s x v door) (Err Misfit) → Ready p w scratch s.count door
      go (Some c) f k = ready_within f k
      go None f k = let z : ◌≡◌ {A = ℕ} 0 1 = cc in absurd (omega arith)
