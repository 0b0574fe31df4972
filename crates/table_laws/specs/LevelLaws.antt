-- Levels (01, "Images and plain tree"): differences of levels count steps in the plain tree, and tell the rows on the line from the first row of a
-- tree to its root.
use Rattle.std.specs.Prelude.{◌≡◌, refl, ◌≢◌, ℕ, suc, ◌+◌, ◌≤◌, ◌<◌, ℤ, pos, ◌+ℤ◌, ◌-ℤ◌}
use Rattle.std.proofs.Common.{ap, sym, ◌∙◌, inl, inr, add-one, arith}
use Rattle.std.proofs.Math.IntN.{suc_ℤ, pred_ℤ, suc-pred, +ℤ-suc_ℤ, pred_ℤ-+ℤ, +ℤ_idr, -ℤ_one, +ℤ_assoc, +ℤ_comm, +ℤ-neg_ℤ_cancel, -ℤ-+ℤ_cancel}
use Rattle.tree_laws.specs.Ancestor.{none, here, there, Forest}
use Rattle.tree_laws.specs.AncestorLaws.{trans, cases, climb}
use Rattle.tree_laws.specs.Reroot.{PlainParent, root as top, turned, kept}
use Rattle.tree_laws.specs.RerootLaws.{plain_parent_lem, plain_kindred, plain_inside, plain_root_over}
use Rattle.tree_laws.specs.Reroot.{plain_parent}
use Rattle.tree_laws.specs.PlainDepth.{plain_depth}
use Rattle.tree_laws.specs.PlainDepthLaws.{plain_forest, plain_depth_lem}
use Rattle.table.specs.Capacity.{node_limit}
use Rattle.table.specs.Table.{Table}
use Rattle.layer.specs.Layer.{parent, depth}
use Rattle.table.specs.Line.{OnLine}
use Rattle.table.specs.PlainTree.{plain}
use Rattle.tree_laws.specs.Top.{kindred_top}
use Rattle.tree_laws.specs.Depth.{Steps, arrived, step}
use Rattle.table.specs.Rules.{Rules}
use Rattle.table.proofs.Rules.{numbered}
use Rattle.table.specs.PlainTree.{root}
use Rattle.layer_laws.specs.Numbered.{InTree}
use Rattle.layer_laws.proofs.Numbered.{shape, stored_tree, stored_kindred, in_tree, first_is, anc_tree}
use Rattle.table_laws.specs.Lines.{root_in_lem, line_over, over_line, dec_line}

-- how far the level of row x lies above minus its depth: not at all exactly on the line
record Rise (t : Table) (x : ℕ) : Type 0 where
  rise : ℕ
  is : t.level x +ℤ pos (depth t.layer x) ≡ pos rise
  on : OnLine t x → rise ≡ 0
  off : ¬ OnLine t x → rise ≢ 0

add_down : (l : ℤ) (d : ℕ) → (l -ℤ pos 1) +ℤ pos (d + 1) ≡ l +ℤ pos d
add_down l d = rw (add-one d, -ℤ_one l) (+ℤ-suc_ℤ (pred_ℤ l) (pos d) ∙ ap suc_ℤ (pred_ℤ-+ℤ l (pos d)) ∙ suc-pred (l +ℤ pos d))

add_up : (l : ℤ) (d : ℕ) → (l +ℤ pos 1) +ℤ pos (d + 1) ≡ (l +ℤ pos d) +ℤ pos 2
add_up l d =
    let e : 1 + (d + 1) ≡ d + 2 = omega arith in
    +ℤ_assoc l (pos 1) (pos (d + 1)) ∙ ap (λ (n : ℕ). l +ℤ pos n) e ∙ sym (+ℤ_assoc l (pos d) (pos 2))

add_step : (l : ℤ) (k : ℕ) → (l +ℤ pos k) +ℤ pos 1 ≡ l +ℤ pos (k + 1)
add_step l k = +ℤ_assoc l (pos k) (pos 1)

-- the plain tree of the tree of f, and depths in it
abbrev pub tree_parent : Table → ℕ → ℕ → ℕ
tree_parent t f = plain_parent (parent t.layer) (depth t.layer) (t.root f)

abbrev pub tree_depth : Table → ℕ → ℕ → ℕ
tree_depth t f = plain_depth (parent t.layer) (depth t.layer) (t.root f)

module _ {capacity : ℕ} {t : Table} (r : Rules capacity t) (fits : capacity ≤ node_limit) where
  tree : Forest (parent t.layer) (depth t.layer) t.layer.count
  tree = stored_tree (numbered r fits)

  -- the plain parent of a row is that by its own tree's root
  pub plain_tree : {f x : ℕ} → InTree t.layer f x → plain t x ≡ tree_parent t f x
  plain_tree {f} {x} i = ap (λ (g : ℕ). plain_parent (parent t.layer) (depth t.layer) (t.root g) x) (first_is (numbered r fits) i)

  module _ {f : ℕ} where
    root_use : {x : ℕ} → InTree t.layer f x → t.root f < t.layer.count
    root_use i = (root_in_lem r fits i).in_use

    -- a plain parent is a row of the same tree
    pub parent_in : {x : ℕ} → InTree t.layer f x → tree_parent t f x ≢ none → InTree t.layer f (tree_parent t f x)
    parent_in {x} i h =
        let p = plain_parent_lem tree (root_use i) x i.in_use in
        let k = plain_kindred tree (root_use i) (stored_kindred (numbered r fits) i (root_in_lem r fits i)) p h in
        let l = plain_inside tree (root_use i) i.in_use p h in
        let e = kindred_top tree l (root_use i) k ∙ first_is (numbered r fits) (root_in_lem r fits i) in
        rw e at (in_tree (numbered r fits) (tree_parent t f x) l)

    -- Steps in the plain tree

    level_plain_parent : {x y : ℕ} → InTree t.layer f x → PlainParent (parent t.layer) (t.root f) x y → y ≢ none → t.level x ≡ t.level y +ℤ pos 1
    level_plain_parent i top h = absurd (h refl)
    level_plain_parent {x} {y} i (turned k e s) h =
        let j : InTree t.layer f y = anc_tree (numbered r fits) (root_in_lem r fits i) s in
        let z : t.level y ≡ t.level x -ℤ pos 1 = rw e at ((r.one.lines.level y j.in_use).on_line k (over_line r fits j s)) in
        rw z (sym (-ℤ-+ℤ_cancel (t.level x) (pos 1)))
    level_plain_parent {x} i (kept d) h = (r.one.lines.level x i.in_use).off_line h (λ o. d (line_over r fits i o))

    -- one step up in the plain tree takes one from the level
    pub level_plain : (x : ℕ) → InTree t.layer f x → tree_parent t f x ≢ none → t.level x ≡ t.level (tree_parent t f x) +ℤ pos 1
    level_plain x i = level_plain_parent i (plain_parent_lem tree (root_use i) x i.in_use)

    -- k steps take k
    pub level_steps : {a k x : ℕ} → InTree t.layer f x → Steps (tree_parent t f) a k x → t.level x ≡ t.level a +ℤ pos k
    level_steps {a} i arrived = sym (+ℤ_idr (t.level a))
    level_steps {a} {x = x} i (step {k = k} h s) = level_plain x i h ∙ rw (level_steps (parent_in i h) s, add_step, add-one)

    -- so the distance to an ancestor is a difference of levels
    pub level_distance : {a k x : ℕ} → InTree t.layer f x → Steps (tree_parent t f) a k x → t.level x -ℤ t.level a ≡ pos k
    level_distance {a} {k} i s = rw (level_steps i s, +ℤ_comm (t.level a) (pos k)) (+ℤ-neg_ℤ_cancel (pos k) (t.level a))

    -- and the plain depth is the level above the root's
    pub level_root : (x : ℕ) → InTree t.layer f x → t.level x ≡ t.level (t.root f) +ℤ pos (tree_depth t f x)
    level_root x i = climb (plain_forest tree o) (λ x. InTree t.layer f x → t.level x ≡ t.level (t.root f) +ℤ pos (tree_depth t f x)) base up x i.in_use i
      where
        o : t.root f < t.layer.count
        o = root_use i

        base : (x : ℕ) → x < t.layer.count → tree_parent t f x ≡ none → InTree t.layer f x → t.level x ≡ t.level (t.root f) +ℤ pos (tree_depth t f x)
        base x l e j = elim (cases (plain_root_over tree o l (stored_kindred (numbered r fits) j (root_in_lem r fits j)))) [
          | inr s ↦ absurd (s.0 e)
          | inl z ↦ rw ((plain_depth_lem (shape (numbered r fits)) o).root x l e, +ℤ_idr) (ap t.level (sym z))
        ]

        up : (x : ℕ) → x < t.layer.count → tree_parent t f x ≢ none
            → (InTree t.layer f (tree_parent t f x) → t.level (tree_parent t f x) ≡ t.level (t.root f) +ℤ pos (tree_depth t f (tree_parent t f x)))
            → InTree t.layer f x → t.level x ≡ t.level (t.root f) +ℤ pos (tree_depth t f x)
        up x l h e j = level_plain x j h ∙ rw (e (parent_in j h), (plain_depth_lem (shape (numbered r fits)) o).step x l h) (add_step (t.level (t.root f)) (tree_depth t f (tree_parent t f x)))

  -- The line from the first row to the root

  rises : (x : ℕ) → x < t.layer.count → Rise t x
  rises = climb tree (Rise t) base up
    where
      base : (x : ℕ) → x < t.layer.count → parent t.layer x ≡ none → Rise t x
      base x l e =
          let i : InTree t.layer x x = record { in_use = l; is = record { over = here; top = e } } in
          record {
            rise = 0;
            is = rw ((r.one.lines.level x l).first e, (r.one.trees.depth x l).first e);
            on = λ _. refl;
            off = λ d. absurd (d (over_line r fits i (root_in_lem r fits i).is.over));
          }

      up : (x : ℕ) → x < t.layer.count → parent t.layer x ≢ none → Rise t (parent t.layer x) → Rise t x
      up x l h i = elim (dec_line r fits x l) [
        | yes o ↦ record {
          rise = i.rise;
          is = rw ((r.one.lines.level x l).on_line h o, (r.one.trees.depth x l).below h, add_down) i.is;
          on = λ _.
              let j = in_tree (numbered r fits) x l in
              i.on (over_line r fits (anc_tree (numbered r fits) j (there h here)) (trans (there h here) (line_over r fits j o)));
          off = λ d. absurd (d o);
        }
        | no d ↦ record {
          rise = i.rise + 2;
          is = rw ((r.one.lines.level x l).off_line h d, (r.one.trees.depth x l).below h, add_up, i.is);
          on = λ o. absurd (d o);
          off = λ _ z. omega arith;
        }
      ]

  -- a row lies on the line exactly when its level is minus its depth
  pub line_level : (x : ℕ) → x < t.layer.count → OnLine t x → t.level x +ℤ pos (depth t.layer x) ≡ pos 0
  line_level x l o = let i = rises x l in i.is ∙ ap pos (i.on o)

  pub level_line : (x : ℕ) → x < t.layer.count → t.level x +ℤ pos (depth t.layer x) ≡ pos 0 → OnLine t x
  level_line x l e =
      let i = rises x l in
      elim (dec_line r fits x l) [ yes o ↦ o | no d ↦ absurd (i.off d (cc)) ]
