-- 01: "a question takes three stored answers, for x and y, x and source, y and source; the shared image is the deepest in the stored tree". The code
-- takes one or two of them; on every table that passes inspection its answer is the deepest of the three.
use Rattle.std.specs.Prelude.{◌≡◌, ◌⊎◌, ℕ, ◌≤◌, ◌<◌}
use Rattle.std.proofs.Math.Path.{sym}
use Rattle.std.proofs.Common.{◌∙◌, arith}
use Rattle.std.proofs.Math.Logic.{inl, inr}
use Rattle.laws.specs.Test.{says_true, says_false, says_eqb}
use Rattle.tree_laws.specs.Ancestor.{Anc, here, Forest}
use Rattle.tree_laws.specs.AncestorLaws.{anc_in}
use Rattle.tree_laws.specs.Depth.{Depth}
use Rattle.tree_laws.specs.DepthLaws.{at_depth_one, anc_steps, steps_depth}
use Rattle.tree_laws.specs.Nca.{Kindred, Nca, Characteristic}
use Rattle.tree_laws.specs.NcaLaws.{Median, lowest_xy, lowest_xz, lowest_yz, median, branch_exists}
use Rattle.tree_laws.specs.PlainFromStored.{plain_nca, plain_characteristic}
use Rattle.table.specs.Capacity.{node_limit}
use Rattle.table.specs.Table.{Table}
use Rattle.layer.specs.Layer.{parent, depth}
use Rattle.layer.specs.StoredTree.{first}
use Rattle.table.specs.PlainTree.{root, plain}
use Rattle.table.specs.Rules.{Rules}
use Rattle.table.proofs.Rules.{numbered}
use Rattle.layer.specs.Numbered.{Numbered}
use Rattle.layer_laws.specs.Numbered.{InTree}
use Rattle.layer_laws.proofs.Numbered.{shape, stored_tree, in_tree}
use Rattle.table_laws.specs.Lines.{root_in_lem}
use Rattle.query_exact.specs.PlainShape.{plain_characteristic as to_plain, kindred_first}

-- m is the deepest of a, b and c
pub record DeepestOf (depth : ℕ → ℕ) (a b c m : ℕ) : Type 0 where
  pub one : (m ≡ a) ⊎ ((m ≡ b) ⊎ (m ≡ c))
  pub first : depth a ≤ depth m
  pub second : depth b ≤ depth m
  pub third : depth c ≤ depth m

-- The deepest of the three is the plain one

module _ {parent depth : ℕ → ℕ} {n : ℕ} (t : Depth parent depth n) where
  -- a row at or below another, and no deeper, is that one
  level_with : {a m : ℕ} → a < n → Anc parent m a → depth a ≤ depth m → m ≡ a
  level_with l p d = at_depth_one t l p here (omega (arith, steps_depth t l (anc_steps t l p)))

  -- two of the three are one row, and the third is at or below it
  lowest : {a b m : ℕ} → a < n → Anc parent b a → (m ≡ a) ⊎ (m ≡ b) → depth a ≤ depth m → m ≡ a
  lowest l p (inl e) d = e
  lowest l p (inr e) d = e ∙ level_with l p (rw e at d)

  deepest_is : {a b c m : ℕ} → a < n → b < n → c < n → Median parent a b c → DeepestOf depth a b c m → m ≡ plain_nca a b c
  unfolding plain_nca
  deepest_is {a} {b} {c} i j k (lowest_xy e o) d =
      rw (says_true (says_eqb b c) e) (lowest i o (elim d.one [ inl z ↦ inl z | inr z ↦ inr (elim z [ inl y ↦ y | inr y ↦ y ∙ sym e ]) ]) d.first)
  deepest_is {a} {b} {c} i j k (lowest_yz e f o) d = rw (says_false (says_eqb b c) f, says_true (says_eqb a b) e)
      (lowest k o (elim d.one [ inl z ↦ inr (z ∙ e) | inr z ↦ elim z [ inl y ↦ inr y | inr y ↦ inl y ] ]) d.third)
  deepest_is {a} {b} {c} i j k (lowest_xz e f o) d = rw (says_false (says_eqb b c) f, says_false (says_eqb a b) (λ z. f (sym z ∙ e)))
      (lowest j o (elim d.one [ inl z ↦ inr (z ∙ e) | inr z ↦ z ]) d.second)

-- The theorem

pub deepest_of_three : {capacity : ℕ} {t : Table} → Rules capacity t → capacity ≤ node_limit → {x y a b c m : ℕ} → x < t.layer.count → y < t.layer.count
    → Kindred (plain t) x y → Nca (parent t.layer) x y a → Nca (parent t.layer) x (root t x) b → Nca (parent t.layer) y (root t x) c → DeepestOf (depth t.layer) a b c m
    → Nca (plain t) x y m
deepest_of_three {t = t} r fits {x} {y} {a} {b} {c} {m} l k same xy xr yr d =
    rw (deepest_is (shape u) (in_x xy.left) (in_x xr.left) (anc_in tree k yr.left) (median tree l k xy xr yr) d)
    (to_plain r fits i j (plain_characteristic tree (root_in_lem r fits i).in_use l k (whole xy) (whole xr) (whole yr))).nca
  where
    u : Numbered t.layer
    u = numbered r fits

    tree : Forest (parent t.layer) (depth t.layer) t.layer.count
    tree = stored_tree u

    i : InTree t.layer (first t.layer x) x
    i = in_tree u x l

    j : InTree t.layer (first t.layer x) y
    j = rw (kindred_first r fits l k same) (in_tree u y k)

    in_x : {z : ℕ} → Anc (parent t.layer) z x → z < t.layer.count
    in_x p = anc_in tree l p

    -- a nearest common ancestor has its branches
    whole : {p q z : ℕ} (n : Nca (parent t.layer) p q z)
        → Characteristic (parent t.layer) p q z (branch_exists n.left).row (branch_exists n.right).row
    whole n = record { nca = n; toward_x = (branch_exists n.left).is; toward_y = (branch_exists n.right).is }
