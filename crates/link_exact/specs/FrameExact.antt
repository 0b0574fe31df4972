-- What a link leaves as it was, on every table that passes inspection, by the definition that the contract of the code cites (02, "Redraw only what moved"):
-- where it answers rows and a head, the head is the first row of the receiving stored tree, and outside the two trees nothing changed.
use Rattle.std.specs.Prelude.{◌≡◌, refl, Bool, true, false, List, ℕ, ◌≤◌, ◌<◌}
use Rattle.std.proofs.Common.{ap, arith}
use Rattle.std.proofs.Math.Decide.{dec_lt, ℕ_discrete}
use Rattle.laws.specs.Test.{says_get, says_and, says_leb}
use Rattle.table.specs.declared.refusal.Refusal.{Refusal}
use Rattle.table.specs.declared.refusal.Refusal.TheVariants.{UnknownNode, Misfit, BadLabel, NotRoot, SameTree}
use Rattle.table.specs.declared.state.State.{State}
use Rattle.table.specs.Capacity.{Fits}
use Rattle.table.specs.Parts.{Parts}
use Rattle.table.specs.PlainTree.{root}
use Rattle.table.specs.Rules.{Rules, label_limit}
use Rattle.table.specs.Table.{Table, table_of}
use Rattle.layer.specs.StoredTree.{first}
use Rattle.tally.specs.Tally.{TallyOf}
use Rattle.growth_plan.specs.Plan.{is_label}
use Rattle.link_laws.specs.LinkFrame.{LinkFrame}
use Rattle.link.specs.Outcome.{refused, linked}
use Rattle.link.specs.Link.{Result, result, link_by}
use Rattle.link_exact.specs.LinkServed.{LinkedExactly, link_misfit, link_unknown_x, link_unknown_v, link_label, link_not_root, link_same_tree, link_served}

-- a link of the parts p and the tally w came out as o: served, and as 02 has it, or refused, and then nothing changed
pub data CameOut (c : ℕ) (p : Parts) (w : List ℕ) (s : State) (x v door : ℕ) (o : Result) : Type 0 where
  served : LinkedExactly c p s x v door o → CameOut c p w s x v door o
  not_served : (why : Refusal) → o ≡ result p w (refused why) → CameOut c p w s x v door o

module _ {c : ℕ} (p : Parts) (w : List ℕ) (scratch : ℕ) (s : State) (x v door : ℕ) (fit : Fits c p) (r : Rules c (table_of p s.count))
    (tally : TallyOf (table_of p s.count) w) where
  abbrev t : Table
  t = table_of p s.count

  abbrev o : Result
  o = link_by p w scratch s x v door

  module _ (same : scratch ≡ c) (in_x : x < s.count) (in_v : v < s.count) where
    labelled : is_label door ≡ true → CameOut c p w s x v door o
    labelled e = elim (ℕ_discrete (root t x) x) [
      | no n ↦ not_served NotRoot (link_not_root p w scratch s x v door fit r tally same in_x in_v e n)
      | yes y ↦ elim (ℕ_discrete (first t.layer v) (first t.layer x)) [
        | yes z ↦ not_served SameTree (link_same_tree p w scratch s x v door fit r tally same in_x in_v e y z)
        | no n ↦
            let k : (1 ≤ door) × (door ≤ label_limit) = says_get (says_and (says_leb 1 door) (λ _. says_leb door label_limit)) e in
            served (link_served p w scratch s x v door fit r tally same record { in_use = in_x; is_root = y; over = in_v; other = n; least = k.0; most = k.1 })
      ]
    ]

    known : (b : Bool) → is_label door ≡ b → CameOut c p w s x v door o
    known true e = labelled e
    known false e = not_served BadLabel (link_label p w scratch s x v door fit tally.long same in_x in_v e)

  pub link_outcome : CameOut c p w s x v door o
  link_outcome = elim (ℕ_discrete scratch c) [
    | no n ↦ not_served Misfit (link_misfit p w scratch s x v door fit tally.long n)
    | yes same ↦ elim (dec_lt x s.count) [
      | no n ↦ not_served UnknownNode (link_unknown_x p w scratch s x v door fit tally.long same (omega arith))
      | yes in_x ↦ elim (dec_lt v s.count) [
        | no n ↦ not_served UnknownNode (link_unknown_v p w scratch s x v door fit tally.long same (omega arith))
        | yes in_v ↦ known same in_x in_v (is_label door) refl
      ]
    ]
  ]

  module _ {k h : ℕ} (e : o.outcome ≡ linked k h) where
    pub link_frame : LinkFrame c t (table_of o.parts s.count) x v
    link_frame = go link_outcome
      where
        go : CameOut c p w s x v door o → LinkFrame c t (table_of o.parts s.count) x v
        go (served q) = q.frame
        go (not_served why i) = let y : ◌≡◌ {A = ℕ} 0 1 = cc (ap (λ (o : Result). o.outcome) i) in absurd (omega arith)

    pub link_head : h ≡ first t.layer v
    link_head = go link_outcome
      where
        go : CameOut c p w s x v door o → h ≡ first t.layer v
        go (served q) = let i = q.answered in cc
        go (not_served why i) = let y : ◌≡◌ {A = ℕ} 0 1 = cc (ap (λ (o : Result). o.outcome) i) in absurd (omega arith)
