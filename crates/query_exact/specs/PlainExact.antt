-- On a table that passes inspection the plain answer by an exact stored one meets sound rows and levels only, and is the nearest common ancestor in the plain tree and both branches;
-- levels give the distances.
use Rattle.std.specs.Prelude.{◌≡◌, Bool, true, Option, Some, option_and_then, ℕ, ◌-◌, ◌≤◌, ◌<◌, pos, nat_abs, ◌-ℤ◌}
use Rattle.std.proofs.Math.Path.{refl}
use Rattle.laws.specs.Test.{Says, holds, fails, says_true, says_leb, says_map, says_not, says_and, says_eqb, pick}
use Rattle.tree_laws.specs.Ancestor.{Anc, Forest}
use Rattle.tree_laws.specs.Depth.{Steps}
use Rattle.tree_laws.specs.DepthLaws.{anc_steps, depth_forest}
use Rattle.tree_laws.specs.Nca.{Characteristic}
use Rattle.tree_laws.specs.NcaLaws.{branch_over}
use Rattle.tree_laws.specs.LeadsOn.{LeadsOn, Above, leads_above, plain_leads_x, plain_leads_y, plain_leads_off}
use Rattle.table.specs.Capacity.{node_limit}
use Rattle.table.specs.Level.{level_limit, is_level}
use Rattle.table.specs.Table.{Table}
use Rattle.layer.specs.Layer.{parent, depth}
use Rattle.table.specs.PlainTree.{plain}
use Rattle.table.specs.Rules.{Rules}
use Rattle.table.proofs.Rules.{numbered}
use Rattle.layer_laws.specs.Numbered.{InTree}
use Rattle.layer_laws.proofs.Numbered.{stored_tree, anc_tree}
use Rattle.table_laws.specs.LevelBounds.{level_small}
use Rattle.table_laws.specs.Lines.{root_in_lem, line_over, over_line}
use Rattle.table_laws.specs.LevelLaws.{tree_parent, tree_depth, level_distance, line_level, level_line}
use Rattle.ancestry.specs.declared.stored.Fork.{Fork}
use Rattle.ancestry_exact.proofs.CompressedExact.{row_sound, row_passes}
use Rattle.ancestry_exact.specs.ForkExact.{ForkExact, StoredExact}
use Rattle.ancestry_exact.proofs.ForkExact.{forked_exact}
use Rattle.query.specs.Line.{on_line, on_line_but}
use Rattle.query.specs.LevelLaws.{says_minus}
use Rattle.query.specs.Node.{is_node}
use Rattle.query.specs.NodeLaws.{says_node}
use Rattle.query.specs.PlainAnswer.{lower_x, lower_y, lowered, is_read, plain_from, plain_answer}
use Rattle.query.specs.PlainAnswerLaws.{plain_lowered, plain_kept}
use Rattle.query_exact.specs.PlainShape.{tree_shape, plain_anc, plain_steps, plain_characteristic}

-- the level of x less that of its plain ancestor a is the number of steps from x to a
pub record DistanceExact (t : Table) (a x : ℕ) : Type 0 where
  pub distance : ℕ
  pub steps : Steps (plain t) a distance x
  pub levels : t.level x -ℤ t.level a ≡ pos distance

module _ {capacity : ℕ} {t : Table} (r : Rules capacity t) (fits : capacity ≤ node_limit) where
  tree : Forest (parent t.layer) (depth t.layer) t.layer.count
  tree = stored_tree (numbered r fits)

  -- every row in use has a level in range, so it is a node
  pub level_passes : (v : ℕ) → v < t.layer.count → is_level (t.level v) ≡ true
  level_passes v l = says_true (says_leb (nat_abs (t.level v)) level_limit) (level_small r fits v l)

  pub node_passes : (v : ℕ) → v < t.layer.count → is_node t.layer.count t.layer.row t.level v ≡ true
  node_passes v l =
      says_true (says_node t.layer.count t.layer.row t.level v) record { row = row_sound (numbered r fits) v l; level = level_small r fits v l }

  -- in the tree of f, whose root is its root
  module _ {f : ℕ} where
    over_in : {a x : ℕ} → InTree t.layer f x → Anc (parent t.layer) a x → InTree t.layer f a
    over_in = anc_tree (numbered r fits)

    -- What the tests of the line say

    pub says_line : (v : ℕ) → InTree t.layer f v → Says (Anc (parent t.layer) v (t.root f)) (on_line t v)
    says_line v i = says_map (λ e. line_over r fits i (level_line r fits v i.in_use e)) (λ p. line_level r fits v i.in_use (over_line r fits i p))
        (says_minus (t.level v) (depth t.layer v))

    says_above : (a : ℕ) → InTree t.layer f a → Says (Above (parent t.layer) (t.root f) a) (on_line_but t (t.root f) a)
    says_above a i =
        says_map (λ h. record { other = h.0; over = h.1 }) (λ h. (h.other, h.over)) (says_and (says_not (says_eqb a (t.root f))) (λ _. says_line a i))

    says_leads : (a u : ℕ) → InTree t.layer f u → Says (LeadsOn (parent t.layer) (t.root f) a u) (on_line_but t a u)
    says_leads a u i =
        says_map (λ h. record { other = h.0; over = h.1 }) (λ h. (h.other, h.over)) (says_and (says_not (says_eqb u a)) (λ _. says_line u i))

    -- the plain answer by these tests, from the stored answer g for x and y
    module _ {stored : ℕ → ℕ → Option Fork} (exact : StoredExact t.layer stored) (x y : ℕ) (i : InTree t.layer f x) (j : InTree t.layer f y)
        (g : Fork) (xy : Characteristic (parent t.layer) x y g.nca g.to_x g.to_y) where
      s : ℕ
      s = t.root f

      o : s < t.layer.count
      unfolding s
      o = (root_in_lem r fits i).in_use

      xr : ForkExact (parent t.layer) x s (stored x s)
      unfolding s
      xr = exact f x (t.root f) i (root_in_lem r fits i)

      yr : ForkExact (parent t.layer) y s (stored y s)
      unfolding s
      yr = exact f y (t.root f) j (root_in_lem r fits j)

      -- its row and branches
      a : InTree t.layer f g.nca
      a = over_in i xy.nca.left

      u : InTree t.layer f g.to_x
      u = over_in i (branch_over xy.toward_x)

      v : InTree t.layer f g.to_y
      v = over_in j (branch_over xy.toward_y)

      Leads : ℕ → Type 0
      Leads w = LeadsOn (parent t.layer) (t.root f) g.nca w

      kept_exact : ¬ Leads g.to_x → ¬ Leads g.to_y → ForkExact (tree_parent t f) x y (Some g)
      unfolding Leads s
      kept_exact d e = record {
        fork = g;
        sound = refl;
        characteristic = plain_leads_off tree o i.in_use j.in_use xy xr.characteristic yr.characteristic d e;
      }

      lowered_exact : ForkExact (tree_parent t f) x y (lowered t stored s x y g)
      unfolding lowered lower_x lower_y Leads s
      lowered_exact = go (says_leads g.nca g.to_x u) (says_leads g.nca g.to_y v)
        where
          go : {a b : Bool} → Says (Leads g.to_x) a → Says (Leads g.to_y) b
              → ForkExact (tree_parent t f) x y
              (pick a (option_and_then (lower_x (parent t.layer)) (stored x (t.root f))) (pick b (option_and_then (lower_y (parent t.layer)) (stored y (t.root f))) (Some g)))
          go (holds d) e = rw xr.sound (forked_exact (depth_forest (tree_shape r fits i)) i.in_use j.in_use
              (plain_leads_x tree o i.in_use j.in_use xy xr.characteristic yr.characteristic d))
          go (fails d) (holds e) = rw yr.sound (forked_exact (depth_forest (tree_shape r fits i)) i.in_use j.in_use
              (plain_leads_y tree o i.in_use j.in_use xy xr.characteristic yr.characteristic e))
          go (fails d) (fails e) = kept_exact d e

      all_read : is_read t.layer.count t.layer.row t.level s g ≡ true
      unfolding is_read s
      all_read = rw (
        level_passes g.nca a.in_use,
        row_passes (numbered r fits) (t.root f) o,
        node_passes g.to_x u.in_use,
        node_passes g.to_y v.in_use,
      )

      plain_from_exact : ForkExact (tree_parent t f) x y (plain_from t stored s x y g)
      unfolding Leads s
      plain_from_exact = go refl (says_above g.nca a)
        where
          go : {b : Bool} → on_line_but t (t.root f) g.nca ≡ b → Says (Above (parent t.layer) (t.root f) g.nca) b
              → ForkExact (tree_parent t f) x y (plain_from t stored (t.root f) x y g)
          go e (holds _) = rw (← plain_lowered t stored (t.root f) x y g e all_read) lowered_exact
          go e (fails n) = rw (plain_kept t stored (t.root f) x y g e)
              (kept_exact (λ d. n (leads_above tree o i.in_use xy.toward_x d)) (λ d. n (leads_above tree o j.in_use xy.toward_y d)))

    -- by an exact stored answer the plain one is exact
    module _ {stored : ℕ → ℕ → Option Fork} (exact : StoredExact t.layer stored) (x y : ℕ) (i : InTree t.layer f x) (j : InTree t.layer f y) where
      tree_exact : ForkExact (tree_parent t f) x y (plain_answer t stored (t.root f) x y)
      unfolding plain_answer s
      tree_exact = let a = exact f x y i j in rw a.sound (plain_from_exact exact x y i j a.fork a.characteristic)

      pub plain_exact : ForkExact (plain t) x y (plain_answer t stored (t.root f) x y)
      plain_exact = record { fork = tree_exact.fork; sound = tree_exact.sound; characteristic = plain_characteristic r fits i j tree_exact.characteristic }

    pub distance_exact : {a x : ℕ} → InTree t.layer f x → Anc (plain t) a x → DistanceExact t a x
    distance_exact {a} {x} i s =
        let k = anc_steps (tree_shape r fits i) i.in_use (plain_anc r fits i s) in
        record { distance = tree_depth t f x - tree_depth t f a; steps = plain_steps r fits i k; levels = level_distance r fits i k }
