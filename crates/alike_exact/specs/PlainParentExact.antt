-- On a table that passes inspection the plain parent that the code finds by an exact stored answer is that of the plain tree.
use Rattle.std.specs.Prelude.{◌≡◌, refl, Bool, true, false, ℕ, ◌≤◌, Option, eqb}
use Rattle.std.proofs.Math.Path.{sym}
use Rattle.std.proofs.Common.{◌∙◌}
use Rattle.laws.specs.Test.{says_eq, says_eqb, pick}
use Rattle.tree_laws.specs.Ancestor.{none, Forest}
use Rattle.tree_laws.specs.NcaLaws.{nca_anc, nca_unique}
use Rattle.tree_laws.specs.PlainFromStored.{plain_step, plain_parent_step}
use Rattle.table.specs.Capacity.{node_limit}
use Rattle.table.specs.Table.{Table}
use Rattle.layer.specs.Layer.{parent, depth}
use Rattle.table.specs.PlainTree.{plain}
use Rattle.table.specs.Rules.{Rules}
use Rattle.table.proofs.Rules.{numbered}
use Rattle.layer_laws.specs.Numbered.{InTree}
use Rattle.layer_laws.proofs.Numbered.{stored_tree}
use Rattle.table_laws.specs.Lines.{root_in_lem}
use Rattle.table_laws.specs.LevelLaws.{plain_tree}
use Rattle.ancestry.specs.declared.stored.Fork.{Fork}
use Rattle.ancestry_exact.specs.ForkExact.{StoredExact}
use Rattle.query.specs.Line.{on_line}
use Rattle.query_exact.specs.PlainExact.{says_line}
use Rattle.alike.specs.PlainParent.{toward_root, plain_up}

-- a branch that is taken where its own test holds
pick_twice : (b c : Bool) (u w v : ℕ) → pick b u (pick c (pick c w u) v) ≡ pick b u (pick c w v)
pick_twice b true u w v = refl
pick_twice b false u w v = refl

module _ {capacity : ℕ} {t : Table} (r : Rules capacity t) (fits : capacity ≤ node_limit) {stored : ℕ → ℕ → Option Fork} (exact : StoredExact t.layer stored) where
  tree : Forest (parent t.layer) (depth t.layer) t.layer.count
  tree = stored_tree (numbered r fits)

  -- the level of z is minus its depth exactly where z is its own nearest common ancestor with the root
  line_test : {f : ℕ} (z : ℕ) (i : InTree t.layer f z) → on_line t z ≡ eqb (exact f z (t.root f) i (root_in_lem r fits i)).fork.nca z
  line_test {f} z i =
      let a = exact f z (t.root f) i (root_in_lem r fits i) in
      let nca = a.characteristic.nca in
      says_eq (λ o. nca_unique tree i.in_use nca (nca_anc o)) (λ e. rw e at nca.right) (says_line r fits z i) (says_eqb a.fork.nca z)

  pub plain_up_lem : {f : ℕ} (z : ℕ) → InTree t.layer f z → plain_up t stored (t.root f) z ≡ plain t z
  unfolding plain_up toward_root plain_step
  plain_up_lem {f} z i =
      let a = exact f z (t.root f) i (root_in_lem r fits i) in
      rw (line_test z i, a.sound)
      (pick_twice (eqb z (t.root f)) (eqb a.fork.nca z) none a.fork.to_y (parent t.layer z) ∙
      sym (plain_parent_step tree (root_in_lem r fits i).in_use i.in_use a.characteristic) ∙ sym (plain_tree r fits i))
