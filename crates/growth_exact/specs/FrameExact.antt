-- What a growth leaves as it was, on every table that passes inspection, by the definitions that the contracts of the code cite (02, "Redraw only what
-- moved"): where a call answers a node and a head, the frame of that head holds.
use Rattle.std.specs.Prelude.{◌≡◌, Bool, List, ℕ, suc, ◌<◌}
use Rattle.std.proofs.Common.{ap, arith}
use Rattle.table.specs.declared.state.State.{State}
use Rattle.table.specs.Parts.{Parts}
use Rattle.table.specs.Capacity.{Fits}
use Rattle.table.specs.PlainTree.{root}
use Rattle.table.specs.Rules.{Rules}
use Rattle.table.specs.Table.{table_of}
use Rattle.tally.specs.Tally.{TallyOf}
use Rattle.growth_laws.specs.Growth.{Growth, leaf, root as new_root}
use Rattle.growth_laws.specs.GrowthFrame.{GrowthFrame, StartFrame}
use Rattle.growth.specs.Outcome.{node}
use Rattle.growth.specs.Growth.{Result, add_first, add_leaf, add_over, add_root}
use Rattle.growth_exact.specs.GrowthExact.{GrownExactly}
use Rattle.growth_exact.specs.FirstExact.{StartedExactly}
use Rattle.growth_exact.specs.GrowthServed.{CameOut, served, not_served, first_outcome, leaf_outcome, over_outcome, root_first_outcome, root_outcome}

module _ {c : ℕ} {p : Parts} {w : List ℕ} {s : State} {o : Result} {m z k h : ℕ} (e : o.outcome ≡ node m z k h) where
  pub growth_frame : {g : Growth} → CameOut (GrownExactly c p s g o) p w o → GrowthFrame c (table_of p s.count) (table_of o.parts m) g h
  growth_frame (served q) =
      let i = q.answered in
      let j : q.head ≡ h = cc in
      let l : suc s.count ≡ m = cc in
      rw (← j, ← l) q.frame
  growth_frame (not_served x n i) = let y : ◌≡◌ {A = ℕ} 0 1 = cc (ap (λ (o : Result). o.outcome) i) in absurd (omega arith)

  -- a first node heads itself
  pub start_frame : CameOut (StartedExactly c p s o) p w o → StartFrame c (table_of p s.count) (table_of o.parts m)
  start_frame (served q) = let i = q.answered in let l : suc s.count ≡ m = cc in rw (← l) q.frame
  start_frame (not_served x n i) = let y : ◌≡◌ {A = ℕ} 0 1 = cc (ap (λ (o : Result). o.outcome) i) in absurd (omega arith)

  pub start_head : CameOut (StartedExactly c p s o) p w o → h ≡ s.count
  start_head (served q) = let i = q.answered in cc
  start_head (not_served x n i) = let y : ◌≡◌ {A = ℕ} 0 1 = cc (ap (λ (o : Result). o.outcome) i) in absurd (omega arith)

-- The calls

module _ {c : ℕ} (p : Parts) (w : List ℕ) (s : State) (fit : Fits c p) (r : Rules c (table_of p s.count)) (i : TallyOf (table_of p s.count) w) (scratch : ℕ)
    {m z k h : ℕ} where
  pub first_frame : (add_first p w scratch s).outcome ≡ node m z k h → StartFrame c (table_of p s.count) (table_of (add_first p w scratch s).parts m)
  first_frame e = start_frame e (first_outcome p w s fit r i scratch)

  pub leaf_frame : (v label face : ℕ) → (add_leaf p w scratch s v label face).outcome ≡ node m z k h
      → GrowthFrame c (table_of p s.count) (table_of (add_leaf p w scratch s v label face).parts m) (leaf v label face) h
  leaf_frame v label face e = growth_frame e (leaf_outcome p w s fit r i scratch v label face)

  module _ (named : Bool) (opening : ℕ) where
    pub over_frame : (x : ℕ) → (add_over p w scratch s x named opening).outcome ≡ node m z k h
        → GrowthFrame c (table_of p s.count) (table_of (add_over p w scratch s x named opening).parts m) (new_root x named opening) h
    over_frame x e = growth_frame e (over_outcome p w s fit r i scratch named opening x)

    pub root_first_frame : s.count ≡ 0 → (add_root p w scratch s named opening).outcome ≡ node m z k h
        → StartFrame c (table_of p s.count) (table_of (add_root p w scratch s named opening).parts m)
    root_first_frame y e = start_frame e (root_first_outcome p w s fit r i scratch named opening y)

    pub root_frame : 0 < s.count → (add_root p w scratch s named opening).outcome ≡ node m z k h
        → GrowthFrame c (table_of p s.count) (table_of (add_root p w scratch s named opening).parts m) (new_root (root (table_of p s.count) 0) named opening) h
    root_frame y e = growth_frame e (root_outcome p w s fit r i scratch named opening y)
