-- What the marks of a row leave: the layer as it is, and the labels, faces, levels and root records that were asked for.
use Rattle.std.specs.Prelude.{◌≡◌, refl, ◌⊎◌, ◌≢◌, List, ℕ, ◌≤◌, ◌<◌}
use Rattle.std.proofs.Math.Path.{fun_ext}
use Rattle.std.proofs.Common.{◌∙◌, arith}
use Rattle.tree_laws.specs.Ancestor.{none}
use Rattle.layer.specs.declared.row.Row.{Row}
use Rattle.layer.specs.Layout.{
  field_stride,
  parent_place,
  first_place,
  last_place,
  next_place,
  upper_place,
  path_place,
  size_place,
  set_size_place,
  depth_place,
}
use Rattle.layer.specs.Row.{field_at, row_of}
use Rattle.layer.specs.Layer.{layer_of}
use Rattle.layer.specs.Write.{with_field}
use Rattle.table.specs.Layout.{label_place, face_place, root_place}
use Rattle.growth_plan.specs.declared.row.Marks.{Marks}
use Rattle.growth_store.specs.Store.{given, marked}
use Rattle.renumber_laws.specs.Column.{put}
use Rattle.renumber_laws.proofs.Column.{put_same, put_other}
use Rattle.renumber_exact.specs.Columns.{Holds, holds_set, set_same, set_other, set_link, put_at}

-- fields that agree in the layer's places stand for the same layer
pub same_layer : (f g m a : List ℕ) (n : ℕ) → ((y k : ℕ) → k ≤ depth_place → field_at g y k ≡ field_at f y k) → layer_of g m a n ≡ layer_of f m a n
same_layer f g m a n e = rw rows refl
  where
    rows : ◌≡◌ {A = ℕ → Row} (row_of g m) (row_of f m)
    rows = fun_ext (λ y. rw (
      e y parent_place (omega arith),
      e y first_place (omega arith),
      e y last_place (omega arith),
      e y next_place (omega arith),
      e y upper_place (omega arith),
      e y path_place (omega arith),
      e y size_place (omega arith),
      e y set_size_place (omega arith),
      e y depth_place (omega arith),
    ) refl)

-- In a column row y takes v, and row z, if it is another, 0; all others keep theirs.
pub record Given (was now : ℕ → ℕ) (z y v : ℕ) : Type 0 where
  pub taken : now y ≡ v
  pub fresh : z ≢ y → now z ≡ 0
  pub kept : (x : ℕ) → x ≢ z → x ≢ y → now x ≡ was x

put_given : (was now : ℕ → ℕ) (z y v : ℕ) → ((x : ℕ) → now x ≡ put (put was z 0) y v x) → Given was now z y v
put_given was now z y v e = record {
  taken = e y ∙ put_same (put was z 0) y v;
  fresh = λ d. e z ∙ put_other (put was z 0) y v z d ∙ put_same was z 0;
  kept = λ x d o. e x ∙ put_other (put was z 0) y v x o ∙ put_other was z 0 x d;
}

-- against a column that was the same before
pub given_before : {before was now : ℕ → ℕ} {z y v : ℕ} → ((x : ℕ) → was x ≡ before x) → Given was now z y v → Given before now z y v
given_before same g = record { taken = g.taken; fresh = g.fresh; kept = λ x d o. g.kept x d o ∙ same x }

-- Two stores at one place
module _ {c : ℕ} {f : List ℕ} (h : Holds field_stride c f) (place z y v : ℕ) (in_row : place < field_stride) where
  given_holds : Holds field_stride c (given f place z y v)
  unfolding given
  given_holds = holds_set (holds_set h _ _) _ _

  given_other : (x k : ℕ) → k < field_stride → k ≢ place → field_at (given f place z y v) x k ≡ field_at f x k
  unfolding given
  given_other x k b d = set_other (holds_set h _ _) y place v in_row x k b d ∙ set_other h z place 0 in_row x k b d

  given_at : z < c → y < c → (x : ℕ) → field_at (given f place z y v) x place ≡ put (put (λ x. field_at f x place) z 0) y v x
  unfolding given
  given_at l i x = set_same (holds_set h _ _) y place v i in_row (put (λ x. field_at f x place) z 0) x (set_same h z place 0 l in_row (λ x. field_at f x place) x refl)

module _ {c : ℕ} {f : List ℕ} (h : Holds field_stride c f) (z : ℕ) (m : Marks) where
  -- the stores before the last
  abbrev labelled : List ℕ
  labelled = given f label_place z m.labelled m.label

  abbrev faced : List ℕ
  faced = given labelled face_place z m.labelled m.face

  abbrev cleared : List ℕ
  cleared = with_field faced z root_place none

  labelled_holds : Holds field_stride c labelled
  labelled_holds = given_holds h label_place z m.labelled m.label (omega arith)

  faced_holds : Holds field_stride c faced
  faced_holds = given_holds labelled_holds face_place z m.labelled m.face (omega arith)

  cleared_holds : Holds field_stride c cleared
  cleared_holds = holds_set faced_holds _ _

  pub marked_holds : Holds field_stride c (marked f z m)
  unfolding marked
  marked_holds = holds_set cleared_holds _ _

  -- the root records aside
  marked_faced : (y k : ℕ) → k < field_stride → k ≢ root_place → field_at (marked f z m) y k ≡ field_at faced y k
  unfolding marked
  marked_faced y k b e = set_other cleared_holds m.tree root_place z (omega arith) y k b e ∙ set_other faced_holds z root_place none (omega arith) y k b e

  -- no other field
  faced_rest : (y k : ℕ) → k < field_stride → k ≢ label_place → k ≢ face_place → field_at faced y k ≡ field_at f y k
  faced_rest y k b d e = given_other labelled_holds face_place z m.labelled m.face (omega arith) y k b e
      ∙ given_other h label_place z m.labelled m.label (omega arith) y k b d

  pub marked_layer : (m' a : List ℕ) (n : ℕ) → layer_of (marked f z m) m' a n ≡ layer_of f m' a n
  marked_layer m' a n =
      same_layer f (marked f z m) m' a n
      (λ y k b. marked_faced y k (omega arith) (λ e. omega arith) ∙ faced_rest y k (omega arith) (λ e. omega arith) (λ e. omega arith))

  -- labels and faces: 0 at z, then what is given at its row, the others as they were
  pub label_after : z < c → m.labelled < c → Given (λ x. field_at f x label_place) (λ x. field_at (marked f z m) x label_place) z m.labelled m.label
  label_after l i = put_given _ _ z m.labelled m.label (λ y. marked_faced y label_place (omega arith) (λ e. omega arith)
      ∙ given_other labelled_holds face_place z m.labelled m.face (omega arith) y label_place (omega arith) (λ e. omega arith)
      ∙ given_at h label_place z m.labelled m.label (omega arith) l i y)

  pub face_after : z < c → m.labelled < c → Given (λ x. field_at f x face_place) (λ x. field_at (marked f z m) x face_place) z m.labelled m.face
  face_after l i = put_given _ _ z m.labelled m.face (λ y. marked_faced y face_place (omega arith) (λ e. omega arith)
      ∙ given_at labelled_holds face_place z m.labelled m.face (omega arith) l i y
      ∙ put_at (put (λ x. field_at labelled x face_place) z 0) (put (λ x. field_at f x face_place) z 0) m.labelled m.face y
      (put_at (λ x. field_at labelled x face_place) (λ x. field_at f x face_place) z 0 y (given_other h label_place z m.labelled m.label (omega arith) y face_place (omega arith) (λ e. omega arith))))

  -- records of roots: z at `tree`, the others as they were
  cleared_root : z < c → (y : ℕ) → y ≢ z → field_at cleared y root_place ≡ field_at f y root_place
  cleared_root l y d = set_same faced_holds z root_place none l (omega arith) (λ x. field_at faced x root_place) y refl
      ∙ put_other (λ x. field_at faced x root_place) z none y d ∙ faced_rest y root_place (omega arith) (λ e. omega arith) (λ e. omega arith)

  pub root_after : z < c → (m.tree ≡ none) ⊎ (m.tree < c) → (y : ℕ) → y < c → y ≢ z
      → field_at (marked f z m) y root_place ≡ put (λ x. field_at f x root_place) m.tree z y
  unfolding marked
  root_after l i y b d = set_link cleared_holds m.tree root_place z i (omega arith) (λ x. field_at f x root_place) y (λ e. omega (arith, h.most)) (cleared_root l y d)
