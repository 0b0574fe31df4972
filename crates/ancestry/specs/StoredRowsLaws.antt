-- A stored answer draws on few rows of any layer, and its nearest common ancestor is one of them.
use Rattle.std.specs.Prelude.{◌≡◌, Bool, ℕ, ◌<◌, Option, Some, None, IfSome, eqb}
use Rattle.std.proofs.Common.{ap, ◌∙◌, arith}
use Rattle.std.proofs.Math.Bool.{true, false}
use Rattle.laws.specs.Test.{pick}
use Rattle.span.specs.Numbers.{p_of}
use Rattle.span.specs.Rank.{rank_of}
use Rattle.span.specs.RankLaws.{rank_small}
use Rattle.layer.specs.declared.row.Row.{Row}
use Rattle.layer.specs.Layout.{entry_stride}
use Rattle.layer.specs.Layer.{Layer}
use Rattle.layer.specs.Spans.{p}
use Rattle.ancestry.specs.declared.compressed.Side.{Side}
use Rattle.ancestry.specs.declared.stored.Fork.{Fork}
use Rattle.ancestry.specs.ReadingLaws.{p_limit}
use Rattle.ancestry.specs.CompressedStep.{side_from, compressed_side}
use Rattle.ancestry.specs.StoredAnswer.{Asked, alone, joined, between, stored_from, stored_answer}
use Rattle.ancestry.specs.StoredAnswerLaws.{between_limit}
use Rattle.ancestry.specs.Agreement.{Both, side_both, side_same, joined_same, joined_kind}
use Rattle.ancestry.specs.Every.{Every, every_left, every_right}
use Rattle.ancestry.specs.StoredRows.{Agree, side_rows, stored_rows}

-- the layers agree in rows of the kind P
module _ {t u : Layer} (n : t.count ≡ u.count) (P : ℕ → Type 0) (agree : (v : ℕ) → P v → Agree t u v) where
  same : (v : ℕ) → P v → t.row v ≡ u.row v
  same v g = (agree v g).row

  p_same : (v : ℕ) → P v → p t v ≡ p u v
  p_same v g = ap (λ (r : Row). p_of r.start r.set_size) (same v g)

  -- one side
  module _ (d o z : ℕ) (i : rank_of d < entry_stride) (g : P z) (h : Every P (side_rows t (t.entry z (rank_of d)) d o z)) where
    compressed_both : IfSome (compressed_side t d o z) (Both P)
    compressed_both =
        side_both t.count t.row u.row P same (t.entry z (rank_of d)) d o z g h.0 h.1.0 h.1.1.0 h.1.1.1.0

    compressed_same : compressed_side t d o z ≡ compressed_side u d o z
    compressed_same =
        side_same t.count t.row u.row P same (t.entry z (rank_of d)) d o z g h.0 h.1.0 h.1.1.0 h.1.1.1.0
        ∙ ap (λ e. side_from t.count u.row e d o z) ((agree z g).entry (rank_of d) i)
        ∙ ap (λ m. side_from m u.row (u.entry z (rank_of d)) d o z) n

  -- the answer
  module _ (x y : ℕ) (asked : Asked t.count t.row x y) (gx : P x) (gy : P y) (h : Every P (stored_rows t x y)) where
    apart : ℕ
    apart = between (p t x) (p t y)

    small : rank_of apart < entry_stride
    unfolding apart
    small = omega (arith, rank_small (between (p t x) (p t y)) (between_limit (p t x) (p t y) (p_limit asked.left) (p_limit asked.right)))

    left : Every P (side_rows t (t.entry x (rank_of apart)) apart (p t y) x)
    unfolding apart
    left = every_left P (side_rows t (t.entry x (rank_of apart)) apart (p t y) x) (side_rows t (t.entry y (rank_of apart)) apart (p t x) y) h

    right : Every P (side_rows t (t.entry y (rank_of apart)) apart (p t x) y)
    unfolding apart
    right = every_right P (side_rows t (t.entry x (rank_of apart)) apart (p t y) x) (side_rows t (t.entry y (rank_of apart)) apart (p t x) y) h

    cx : Option Side
    cx = compressed_side t apart (p t y) x

    cy : Option Side
    cy = compressed_side t apart (p t x) y

    both_x : IfSome cx (Both P)
    unfolding cx
    both_x = compressed_both apart (p t y) x small gx left

    both_y : IfSome cy (Both P)
    unfolding cy
    both_y = compressed_both apart (p t x) y small gy right

    sides_same : joined t.count t.row cx cy ≡ joined u.count u.row (compressed_side u apart (p t y) x) (compressed_side u apart (p t x) y)
    unfolding cx cy
    sides_same =
        joined_same t.count t.row u.row P same cx cy both_x both_y left.1.1.1.1.0 right.1.1.1.1.0
        ∙ ap (λ m. joined m u.row cx cy) n
        ∙ ap (λ c. joined u.count u.row c cy) (compressed_same apart (p t y) x small gx left)
        ∙ ap (λ k. joined u.count u.row (compressed_side u apart (p t y) x) k) (compressed_same apart (p t x) y small gy right)

    sides_kind : IfSome (joined t.count t.row cx cy) (λ f. P f.nca)
    unfolding cx cy
    sides_kind = joined_kind t.count t.row u.row P same cx cy both_x both_y left.1.1.1.1.0 right.1.1.1.1.0

    pub stored_same : stored_answer t x y ≡ stored_answer u x y
    unfolding stored_from apart cx cy
    stored_same =
        ap (λ f. pick (eqb x y) (Some (alone x)) (pick (eqb (p t x) (p t y)) None f)) sides_same
        ∙ ap (λ m. stored_from u m (p t y) x y) (p_same x gx)
        ∙ ap (λ m. stored_from u (p u x) m x y) (p_same y gy)

    pub stored_kind : IfSome (stored_answer t x y) (λ f. P f.nca)
    unfolding stored_from apart cx cy
    stored_kind = go (eqb x y) (eqb (p t x) (p t y)) _ sides_kind
      where
        go : (b d : Bool) (f : Option Fork) → IfSome f (λ g. P g.nca) → IfSome (pick b (Some (alone x)) (pick d None f)) (λ g. P g.nca)
        go true d f g = gx
        go false true f g = tt
        go false false f g = g
