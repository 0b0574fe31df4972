-- A node by its test, and where its level stands.
use Rattle.std.specs.Prelude.{◌≡◌, Bool, true, false, List, ℕ, ◌≤◌, ℤ, nat_abs, length}
use Rattle.std.proofs.Common.{arith}
use Rattle.laws.specs.Test.{Says, says_get, says_map, says_and, says_leb}
use Rattle.layer.specs.declared.row.Row.{Row}
use Rattle.layer.specs.Checked.{is_row}
use Rattle.layer.specs.CheckedLaws.{says_row}
use Rattle.table.specs.Level.{level_limit, is_level}
use Rattle.table.specs.Parts.{level_at}
use Rattle.query.specs.Node.{IsNode, is_node, Levelled}

module _ (n : ℕ) (rows : ℕ → Row) (levels : ℕ → ℤ) (v : ℕ) where
  pub says_node : Says (IsNode n rows levels v) (is_node n rows levels v)
  unfolding is_node
  says_node =
      says_map (λ h. record { row = h.0; level = h.1 }) (λ h. (h.row, h.level)) (says_and (says_row n rows v) (λ _. says_leb (nat_abs (levels v)) level_limit))

  pub is_node_lem : is_node n rows levels v ≡ true → IsNode n rows levels v
  is_node_lem e = says_get says_node e

  -- a row whose level is out of range is no node
  pub node_row : {b : Bool} → is_row n rows v ≡ true → b ≡ is_level (levels v) → b ≡ is_node n rows levels v
  unfolding is_node
  node_row e h = rw e h

  pub node_none : is_row n rows v ≡ false → false ≡ is_node n rows levels v
  unfolding is_node
  node_none e = rw e

-- the level of a node stands within the levels
pub levelled : {n v : ℕ} {rows : ℕ → Row} {l : List ℤ} → n ≤ length l → IsNode n rows (level_at l) v → Levelled l v
levelled h k = record { within = omega (arith, k.row.in_use); small = k.level }
