-- What is proved of `Extend`.
use Rattle.std.specs.Prelude.{◌≡◌, refl, ℕ, suc, ◌<◌}
use Rattle.std.proofs.Common.{ap, sym, ◌∙◌, arith}
use Rattle.std.proofs.Math.Decide.{ℕ_discrete}
use Rattle.laws.specs.Test.{says_true, says_false, says_eqb, says_get, says_not_get}
use Rattle.tree_laws.specs.Ancestor.{none}
use Rattle.tree_laws.specs.Join.{Alone}
use Rattle.span.specs.Numbers.{reach_of}
use Rattle.layer.specs.declared.row.Row.{Row}
use Rattle.layer.specs.Layer.{Layer, parent}
use Rattle.layer.specs.Entries.{entry_from}
use Rattle.layer.specs.Numbered.{row_limit, Numbered}
use Rattle.join_laws.specs.Lone.{Lone, Kept}
use Rattle.join_laws.specs.Extended.{Extended}
use Rattle.join_laws.specs.Extend.{lone_row, with_lone}

-- d is t and one row more, from its rows
pub extended_by : {t d : Layer} → Numbered t → t.count < row_limit → d.count ≡ suc t.count → Lone d t.count
    → ((x : ℕ) → x < t.count → Kept t d x) → Extended t d
extended_by {t} {d} r room more new old = record {
  count = more;
  parted = record {
    most = omega arith;
    more = omega arith;
    old = λ x l e. let d = says_not_get (says_eqb x t.count) e in omega arith;
    alone = λ x l e. rw (says_get (says_eqb x t.count) e) new;
    kept = λ x l e. old x l;
    above = λ x l e d. says_false (says_eqb (parent t x) t.count) (λ y. omega (arith, r.one.inside x l d));
    below = λ x l d e. says_false (says_eqb x t.count) (λ y. omega arith);
  };
}

module _ (t : Layer) where
  pub row_old : (x : ℕ) → x < t.count → (with_lone t).row x ≡ t.row x
  row_old x l = rw (says_false (says_eqb x t.count) (λ e. omega arith)) refl

  row_new : (with_lone t).row t.count ≡ lone_row
  row_new = rw (says_true (says_eqb t.count t.count) refl) refl

  pub entry_old : (x i : ℕ) → x < t.count → (with_lone t).entry x i ≡ t.entry x i
  entry_old x i l = rw (says_false (says_eqb x t.count) (λ e. omega arith)) refl

  entry_new : (i : ℕ) → (with_lone t).entry t.count i ≡ entry_from t.count (reach_of 1) i none
  entry_new i = rw (says_true (says_eqb t.count t.count) refl) refl

  lone_new : Lone (with_lone t) t.count
  lone_new = record {
    parent_none = ap (λ (r : Row). r.parent) row_new;
    depth_zero = ap (λ (r : Row). r.depth) row_new;
    first_none = ap (λ (r : Row). r.first) row_new;
    last_none = ap (λ (r : Row). r.last) row_new;
    next_none = ap (λ (r : Row). r.next) row_new;
    upper_none = ap (λ (r : Row). r.upper) row_new;
    path_none = ap (λ (r : Row). r.path) row_new;
    size_one = ap (λ (r : Row). r.size) row_new;
    set_size_one = ap (λ (r : Row). r.set_size) row_new;
    start_zero = ap (λ (r : Row). r.start) row_new;
    next_free_one = ap (λ (r : Row). r.next_free) row_new;
    filled = λ i b. entry_new i ∙ ap (λ (r : Row). entry_from t.count (reach_of r.set_size) i none) (sym row_new);
  }

  kept_old : (x : ℕ) → x < t.count → Kept t (with_lone t) x
  kept_old x l = record {
    same_parent = ap (λ (r : Row). r.parent) (row_old x l);
    same_depth = ap (λ (r : Row). r.depth) (row_old x l);
    same_first = ap (λ (r : Row). r.first) (row_old x l);
    same_last = ap (λ (r : Row). r.last) (row_old x l);
    same_next = ap (λ (r : Row). r.next) (row_old x l);
    same_upper = ap (λ (r : Row). r.upper) (row_old x l);
    same_path = ap (λ (r : Row). r.path) (row_old x l);
    same_size = ap (λ (r : Row). r.size) (row_old x l);
    same_set_size = ap (λ (r : Row). r.set_size) (row_old x l);
    same_start = ap (λ (r : Row). r.start) (row_old x l);
    same_next_free = ap (λ (r : Row). r.next_free) (row_old x l);
    same_entry = λ i b. entry_old x i l;
  }

  pub extend : Numbered t → t.count < row_limit → Extended t (with_lone t)
  extend r room = extended_by r room refl lone_new kept_old

  pub extend_alone : Numbered t → Alone (parent (with_lone t)) (suc t.count) t.count
  extend_alone r = record {
    inside = omega arith;
    top = ap (λ (r : Row). r.parent) row_new;
    bare = λ x l e. elim (ℕ_discrete x t.count) [
      | yes y ↦ omega (arith, r.one.count, sym e ∙ ap (parent (with_lone t)) y ∙ ap (λ (r : Row). r.parent) row_new)
      | no d ↦
          let i : x < t.count = omega arith in
          let o : parent t x ≡ t.count = sym (ap (λ (r : Row). r.parent) (row_old x i)) ∙ e in
          omega (arith, r.one.inside x i (λ y. omega (arith, r.one.count)))
    ];
  }
