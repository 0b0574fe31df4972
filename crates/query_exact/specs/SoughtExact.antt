-- On a table that passes inspection the tree that two nodes share is found: its root, or that there is none.
use Rattle.std.specs.Prelude.{◌≡◌, refl, ◌≢◌, Ok, Err, ℕ, ◌≤◌, ◌<◌}
use Rattle.std.proofs.Common.{sym, ◌∙◌, arith}
use Rattle.laws.specs.Test.{says_true, says_and, says_ltb}
use Rattle.tree_laws.specs.Ancestor.{none}
use Rattle.table.specs.declared.refusal.Refusal.TheVariants.{OtherTree}
use Rattle.table.specs.declared.state.State.{State}
use Rattle.table.specs.Parts.{Parts}
use Rattle.table.specs.Capacity.{node_limit, Fits}
use Rattle.table.proofs.CapacityLaws.{fits_told}
use Rattle.table.proofs.StateLaws.{says_standing}
use Rattle.table.specs.Table.{Table, table_of}
use Rattle.layer.specs.StoredTree.{first}
use Rattle.table.specs.PlainTree.{root}
use Rattle.table.specs.Rules.{Rules}
use Rattle.table.proofs.Rules.{numbered}
use Rattle.layer_laws.specs.Numbered.{InTree}
use Rattle.layer_laws.proofs.Numbered.{in_tree, first_in}
use Rattle.table_laws.specs.Lines.{root_in_lem}
use Rattle.table_laws.specs.TreeTests.{tree_is, recorded_is}
use Rattle.query.specs.Sought.{sought_in}
use Rattle.query.specs.SoughtLaws.{sought_other, sought_root}
use Rattle.query.specs.Asked.{asked}
use Rattle.query.specs.AskedLaws.{asked_sought}

-- the table that lent parts and their count record
abbrev pub recorded : Parts → State → Table
recorded parts state = table_of parts state.count

module _ {c : ℕ} (p : Parts) (n x y : ℕ) (r : Rules c (table_of p n)) (fits : c ≤ node_limit) (l : x < n) (m : y < n) where
  -- a row is not none
  some : {v : ℕ} → v < n → v ≢ none
  some h e = omega (arith, r.one.trees.count)

  sought_one : first (table_of p n).layer x ≡ first (table_of p n).layer y → sought_in p.fields p.ancestors n x y ≡ Ok (root (table_of p n) x)
  sought_one e =
      let i = in_tree (numbered r fits) x l in
      let j : InTree (table_of p n).layer (first (table_of p n).layer x) y = rw e (in_tree (numbered r fits) y m) in
      let f = some (first_in (numbered r fits) i) in
      sym (sought_root p.fields p.ancestors n x y (sym (tree_is p n r fits i)) f (sym (tree_is p n r fits j)) f refl
      (sym (recorded_is p n r fits i)) (some (root_in_lem r fits i).in_use))

  sought_two : first (table_of p n).layer x ≢ first (table_of p n).layer y → sought_in p.fields p.ancestors n x y ≡ Err OtherTree
  sought_two d =
      let i = in_tree (numbered r fits) x l in
      let j = in_tree (numbered r fits) y m in
      sym (sought_other p.fields p.ancestors n x y (sym (tree_is p n r fits i)) (some (first_in (numbered r fits) i))
      (sym (tree_is p n r fits j)) (some (first_in (numbered r fits) j)) d)

-- so what is looked at before a question on two nodes below the count finds that root, or refuses by 12
module _ {c : ℕ} (parts : Parts) (state : State) (x y : ℕ) (fits : Fits c parts) (r : Rules c (recorded parts state))
    (l : x < state.count) (m : y < state.count) where
  passed : sought_in parts.fields parts.ancestors state.count x y ≡ asked parts state x y
  passed = asked_sought parts state x y (fits_told fits) (says_true (says_and (says_ltb x state.count) (λ _. says_ltb y state.count)) (l, m))
      (says_true (says_standing c state) r.one.trees.count)

  pub asked_one : first (recorded parts state).layer x ≡ first (recorded parts state).layer y → Ok (root (recorded parts state) x) ≡ asked parts state x y
  asked_one e = sym (sought_one parts state.count x y r fits.most l m e) ∙ passed

  pub asked_two : first (recorded parts state).layer x ≢ first (recorded parts state).layer y → Err OtherTree ≡ asked parts state x y
  asked_two d = sym (sought_two parts state.count x y r fits.most l m d) ∙ passed
