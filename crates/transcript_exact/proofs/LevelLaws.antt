-- Where node 0 is the first row and all nodes stand in its tree, the table's levels are the plain list's.
use Rattle.std.specs.Prelude.{◌≡◌, ℕ, zero, suc, ◌+◌, ◌≤◌, ◌<◌, ℤ, pos, ◌+ℤ◌, ◌-ℤ◌, length}
use Rattle.std.proofs.Common.{sym, ap, ◌∙◌, inl, inr, arith, eq-eqb, ne_eqb}
use Rattle.std.proofs.Math.Decide.{ℕ_discrete}
use Rattle.std.proofs.Math.IntN.{+ℤ_idl, +ℤ_assoc, +ℤ-neg_ℤ_cancel}
use Rattle.tree_laws.specs.Ancestor.{none, here}
use Rattle.tree_laws.specs.Depth.{Depth}
use Rattle.tree_laws.specs.SizeDepth.{depth_below_lem}
use Rattle.table.specs.Capacity.{node_limit}
use Rattle.table.specs.Table.{Table}
use Rattle.layer.specs.Layer.{parent}
use Rattle.layer.specs.StoredTree.{first}
use Rattle.table.specs.PlainTree.{plain}
use Rattle.table.specs.Rules.{Rules}
use Rattle.table.proofs.Rules.{numbered}
use Rattle.layer.specs.Numbered.{Numbered}
use Rattle.layer_laws.specs.Numbered.{InTree}
use Rattle.layer_laws.proofs.Numbered.{in_tree, first_in}
use Rattle.table_laws.specs.LevelLaws.{level_root}
use Rattle.query_exact.specs.PlainShape.{plain_depth_of, plain_shape, plain_depth_is}
use Rattle.growth_laws.specs.Growth.{Growth}
use Rattle.growth_laws.specs.Grown.{Grown, Started}
use Rattle.join_laws.proofs.ExtendedLaws.{old_or_new, extended_lone}
use Rattle.growth_laws.proofs.GrownLaws.{growth_count, parent_old_lem, over_in, new_some}
use Rattle.plain_list.specs.PlainList.{PlainList, count_of, parent_of}
use Rattle.plain_list.specs.Naive.{ancestors_of}
use Rattle.plain_list.specs.Shows.{Shows}
use Rattle.transcript_exact.specs.Level.{ancestor_count, level_in}

-- node 0 alone has no stored parent
pub record OneTree (t : Table) : Type 0 where
  pub first : 0 < t.layer.count → parent t.layer 0 ≡ none
  pub only : (x : ℕ) → x < t.layer.count → parent t.layer x ≡ none → x ≡ 0

-- ---- growth keeps it

pub one_empty : (t : Table) → t.layer.count ≡ 0 → OneTree t
one_empty t e = record { first = λ l. absurd (omega arith); only = λ x l _. absurd (omega arith) }

module _ {t d : Table} (r : Numbered t.layer) where
  pub one_grown : {g : Growth} {h : ℕ} → Grown t d g h → OneTree t → OneTree d
  one_grown {g} {h} k o = record {
    first = λ _. let l : 0 < t.layer.count = omega (arith, over_in r k) in parent_old_lem r k 0 l ∙ o.first l;
    only = λ x l e. elim (old_or_new (growth_count r k) x l) [
      | inl i ↦ o.only x i (sym (parent_old_lem r k x i) ∙ e)
      | inr i ↦ absurd (new_some r k (ap (parent d.layer) (sym i) ∙ e))
    ];
  }

  pub one_started : Started t d → t.layer.count ≡ 0 → OneTree d
  one_started k z = record {
    first = λ _. ap (parent d.layer) (sym z) ∙ (extended_lone r k.extended).parent_none;
    only = λ x l _. omega (arith, k.extended.count);
  }

-- ---- levels

-- a node has one ancestor more than its depth
ancestors_depth : {up depth : ℕ → ℕ} {n : ℕ} → Depth up depth n → (fuel x : ℕ) → x < n → depth x ≤ fuel → length (ancestors_of up fuel x) ≡ suc (depth x)
ancestors_depth t zero x l h = omega arith
ancestors_depth {up} {depth} t (suc fuel) x l h = elim (ℕ_discrete (up x) none) [
  | yes e ↦ rw (eq-eqb (up x) none e, t.root x l e)
  | no d ↦
      let s = t.step x l d in
      rw (ne_eqb (up x) none d) (ap suc (ancestors_depth t fuel (up x) (t.inside x l d) (omega arith)) ∙ omega arith)
]

-- depths are those of any parents that agree
depth_agree : {up up' depth : ℕ → ℕ} {m n : ℕ} → m ≡ n → ((x : ℕ) → x < n → up x ≡ up' x) → Depth up depth m → Depth up' depth n
depth_agree {up} {up'} {depth} {m} {n} e same t = record {
  small = omega (arith, t.small);
  inside = λ x l h. rw (← same x l, ← e) (t.inside x (in_use l) (rw (same x l) h));
  root = λ x l h. t.root x (in_use l) (same x l ∙ h);
  step = λ x l h. rw (← same x l) (t.step x (in_use l) (rw (same x l) h));
}
  where
    in_use : {x : ℕ} → x < n → x < m
    in_use l = omega arith

-- a level that is a depth and as much as makes that of node 0 vanish
level_difference : (l : ℤ) (a b : ℕ) → l +ℤ pos b ≡ pos 0 → l +ℤ pos a ≡ pos (suc a) -ℤ pos (suc b)
level_difference l a b z =
    let e : a + suc b ≡ b + suc a = omega arith in
    let s : (l +ℤ pos a) +ℤ pos (suc b) ≡ pos (suc a) =
    +ℤ_assoc l (pos a) (pos (suc b)) ∙ ap (λ (n : ℕ). l +ℤ pos n) e ∙ sym (+ℤ_assoc l (pos b) (pos (suc a))) ∙ ap (λ (k : ℤ). k +ℤ pos (suc a)) z
    ∙ +ℤ_idl (pos (suc a)) in
    sym (+ℤ-neg_ℤ_cancel (l +ℤ pos a) (pos (suc b))) ∙ ap (λ (k : ℤ). k -ℤ pos (suc b)) s

module _ {c : ℕ} {t : Table} {p : PlainList} (r : Rules c t) (fits : c ≤ node_limit) (o : OneTree t) (count : count_of p ≡ t.layer.count)
    (s : Shows (plain t) t.label t.face p) where
  shape : Depth (parent_of p) (plain_depth_of t) (count_of p)
  shape = depth_agree (sym count) s.parents (plain_shape r fits)

  ancestors : (x : ℕ) → x < t.layer.count → ancestor_count p x ≡ suc (plain_depth_of t x)
  ancestors x l = let i : x < count_of p = omega arith in ancestors_depth shape (count_of p) x i (omega (arith, depth_below_lem shape x i))

  in_one : (x : ℕ) → x < t.layer.count → InTree t.layer 0 x
  in_one x l =
      let n = numbered r fits in
      let i = in_tree n x l in
      rw (o.only (first t.layer x) (first_in n i) i.is.top) at i

  depth_level : (x : ℕ) → x < t.layer.count → t.level x ≡ t.level (t.root 0) +ℤ pos (plain_depth_of t x)
  depth_level x l = let i = in_one x l in level_root r fits x i ∙ ap (λ (k : ℕ). t.level (t.root 0) +ℤ pos k) (sym (plain_depth_is r fits i))

  pub level_plain : (x : ℕ) → x < t.layer.count → t.level x ≡ level_in p x
  level_plain x l =
      let z : 0 < t.layer.count = omega arith in
      let e : t.level (t.root 0) +ℤ pos (plain_depth_of t 0) ≡ pos 0 = sym (depth_level 0 z) ∙ (r.one.lines.level 0 z).first (o.first z) in
      rw (ancestors x l, ancestors 0 z) (depth_level x l ∙ level_difference (t.level (t.root 0)) (plain_depth_of t x) (plain_depth_of t 0) e)
