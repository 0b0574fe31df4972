-- On every table the row that a plain answer names was read, where that is so of the stored one: it is in use and sound.
use Rattle.std.specs.Prelude.{◌≡◌, refl, Bool, ◌||◌, ℕ, ◌≤◌, ℤ, nat_abs, Option, Some, None, IfSome, option_and_then, eqb}
use Rattle.std.proofs.Math.Bool.{true, false}
use Rattle.tree_laws.specs.Ancestor.{none}
use Rattle.laws.specs.Test.{pick, says_get, says_and, says_leb}
use Rattle.layer.specs.declared.row.Row.{Row}
use Rattle.layer.specs.Layer.{parent}
use Rattle.layer.specs.Checked.{IsRow}
use Rattle.layer.specs.CheckedLaws.{says_row}
use Rattle.table.specs.Level.{level_limit}
use Rattle.table.specs.Table.{Table}
use Rattle.ancestry.specs.declared.stored.Fork.{Fork}
use Rattle.ancestry.specs.StoredAnswer.{Asked, forked}
use Rattle.ancestry.specs.AnswerRows.{if_then}
use Rattle.query.specs.Line.{on_line_but}
use Rattle.query.specs.Node.{IsNode}
use Rattle.query.specs.NodeLaws.{says_node}
use Rattle.query.specs.PlainAnswer.{lower_x, lower_y, lowered, is_read, plain_from, plain_answer}

-- what is read where the line goes on below the stored answer f
pub record Read (n : ℕ) (rows : ℕ → Row) (levels : ℕ → ℤ) (r : ℕ) (f : Fork) : Type 0 where
  pub level : nat_abs (levels f.nca) ≤ level_limit
  pub root : IsRow n rows r
  pub left : IsNode n rows levels f.to_x
  pub right : IsNode n rows levels f.to_y

pub is_read_lem : (n : ℕ) (rows : ℕ → Row) (levels : ℕ → ℤ) (r : ℕ) (f : Fork) → is_read n rows levels r f ≡ true → Read n rows levels r f
unfolding is_read
is_read_lem n rows levels r f e =
    let h = says_get (says_and (says_and (says_and (says_leb (nat_abs (levels f.nca)) level_limit) (λ _. says_row n rows r))
    (λ _. says_node n rows levels f.to_x)) (λ _. says_node n rows levels f.to_y)) e in
    record { level = h.0.0.0; root = h.0.0.1; left = h.0.1; right = h.1 }

module _ (t : Table) (stored : ℕ → ℕ → Option Fork) where
  abbrev Named : Fork → Type 0
  Named f = IsRow t.layer.count t.layer.row f.nca

  module _ (named : (x y : ℕ) → Asked t.layer.count t.layer.row x y → IfSome (stored x y) Named)
      (r x y : ℕ) (h : Asked t.layer.count t.layer.row x y) where
    forked_row : (a u v : ℕ) → IsRow t.layer.count t.layer.row a → IfSome (forked a u v) Named
    unfolding forked
    forked_row a u v i = go (eqb u none || eqb v none)
      where
        go : (b : Bool) → IfSome {T = Fork} (pick b None (Some record { nca = a; to_x = u; to_y = v })) Named
        go true = tt
        go false = i

    lowered_row : (f : Fork) → IsRow t.layer.count t.layer.row r → IsRow t.layer.count t.layer.row f.nca → IfSome (lowered t stored r x y f) Named
    unfolding lowered lower_x lower_y
    lowered_row f o i = go (on_line_but t f.nca f.to_x) (on_line_but t f.nca f.to_y)
      where
        go : (a b : Bool) → IfSome (pick a (option_and_then (lower_x (parent t.layer)) (stored x r)) (pick b (option_and_then (lower_y (parent t.layer)) (stored y r)) (Some f)))
            Named
        go true b = if_then (lower_x (parent t.layer)) (stored x r) Named Named
            (named x r record { left = h.left; right = o }) (λ g k. forked_row g.nca g.to_x (parent t.layer g.nca) k)
        go false true = if_then (lower_y (parent t.layer)) (stored y r) Named Named
            (named y r record { left = h.right; right = o }) (λ g k. forked_row g.nca (parent t.layer g.nca) g.to_x k)
        go false false = i

    from_row : (f : Fork) → IsRow t.layer.count t.layer.row f.nca → IfSome (plain_from t stored r x y f) Named
    unfolding plain_from
    from_row f i = go (on_line_but t r f.nca) (is_read t.layer.count t.layer.row t.level r f) refl
      where
        go : (a b : Bool) → is_read t.layer.count t.layer.row t.level r f ≡ b
            → IfSome (pick a (pick b (lowered t stored r x y f) None) (Some f)) Named
        go true true o = lowered_row f (is_read_lem t.layer.count t.layer.row t.level r f o).root i
        go true false o = tt
        go false b o = i

    pub plain_row : IfSome (plain_answer t stored r x y) Named
    unfolding plain_answer
    plain_row = if_then (plain_from t stored r x y) (stored x y) Named Named (named x y h) from_row
