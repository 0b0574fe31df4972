-- The lent parts read as columns: what a store leaves at each field of each row. `none` names no row of a part.
use Rattle.std.specs.Prelude.{◌≡◌, refl, ◌⊎◌, ◌≢◌, List, ℕ, ◌+◌, ◌*◌, ◌≤◌, ◌<◌, length, get_or, set}
use Rattle.std.proofs.Common.{sym, ◌∙◌, inl, inr, mul-le-mul_right, arith, length-set}
use Rattle.std.proofs.Math.Decide.{ℕ_discrete}
use Rattle.std.proofs.Math.ListN.{get_or-eq_default}
use Rattle.std.proofs.Math.Seq.{set_out}
use Rattle.laws.specs.Strided.{other_field, other_row, same_field}
use Rattle.tree_laws.specs.Ancestor.{none}
use Rattle.layer.specs.Numbered.{row_limit}
use Rattle.renumber_laws.specs.Column.{put}
use Rattle.renumber_laws.proofs.Column.{put_same, put_other}

-- a part of w numbers to a row holds the rows below c, and no others
pub record Holds (w c : ℕ) (l : List ℕ) : Type 0 where
  pub most : c ≤ row_limit
  pub long : length l ≡ c * w

pub holds_set : {w c : ℕ} {l : List ℕ} → Holds w c l → (i v : ℕ) → Holds w c (set l i v)
holds_set {w} {c} {l} h i v = record { most = h.most; long = length-set l i v ∙ h.long }

module _ {w c : ℕ} {l : List ℕ} (h : Holds w c l) where
  -- past the rows every number is 0
  pub past : (x k : ℕ) → c ≤ x → get_or l (x * w + k) 0 ≡ 0
  past x k i = get_or-eq_default l 0 (omega (arith, h.long, mul-le-mul_right w i))

  -- and nothing is stored
  pub past_set : (x k v : ℕ) → c ≤ x → set l (x * w + k) v ≡ l
  past_set x k v i = set_out l (x * w + k) v (omega (arith, h.long, mul-le-mul_right w i))

  -- a store at field k of row x, where field k reads as the column g
  pub set_same : (x k v : ℕ) → x < c → k < w → (g : ℕ → ℕ) (y : ℕ) → get_or l (y * w + k) 0 ≡ g y → get_or (set l (x * w + k) v) (y * w + k) 0 ≡ put g x v y
  set_same x k v i j g y r = elim (ℕ_discrete y x) [
    | yes e ↦ rw e (same_field w c l x k v 0 i j (omega (arith, h.long)) ∙ sym (put_same g x v))
    | no d ↦ other_row w l x y k k v 0 j j d ∙ r ∙ sym (put_other g x v y d)
  ]

  -- at another field
  pub set_other : (x k v : ℕ) → k < w → (y j : ℕ) → j < w → j ≢ k → get_or (set l (x * w + k) v) (y * w + j) 0 ≡ get_or l (y * w + j) 0
  set_other x k v a y j b d = other_field w l x y k j v 0 a b d

  -- a store at a row or at none, where field k reads as the column g
  pub set_link : (x k v : ℕ) → (x ≡ none) ⊎ (x < c) → k < w → (g : ℕ → ℕ) (y : ℕ) → y ≢ none → get_or l (y * w + k) 0 ≡ g y
      → get_or (set l (x * w + k) v) (y * w + k) 0 ≡ put g x v y
  set_link x k v (inl e) j g y d r = rw (e, past_set none k v (omega (arith, h.most))) (r ∙ sym (put_other g none v y d))
  set_link x k v (inr i) j g y d r = set_same x k v i j g y r

-- the part g is the part f with the fields of row x as r has them
pub record RowView (w c : ℕ) (f : List ℕ) (x : ℕ) (g : List ℕ) (r : ℕ → ℕ) : Type 0 where
  pub holds : Holds w c g
  pub own : (j : ℕ) → j < w → get_or g (x * w + j) 0 ≡ r j
  pub others : (y j : ℕ) → j < w → y ≢ x → get_or g (y * w + j) 0 ≡ get_or f (y * w + j) 0

pub row_same : {w c : ℕ} {f : List ℕ} → Holds w c f → (x : ℕ) → RowView w c f x f (λ j. get_or f (x * w + j) 0)
row_same h x = record { holds = h; own = λ j i. refl; others = λ y j i d. refl }

pub row_set : {w c : ℕ} {f g : List ℕ} {x : ℕ} (r : ℕ → ℕ) → RowView w c f x g r → x < c → (k v : ℕ) → k < w → RowView w c f x (set g (x * w + k) v) (put r k v)
row_set {w} {c} {f} {g} {x} r o l k v i = record {
  holds = holds_set o.holds (x * w + k) v;
  own = λ j a. elim (ℕ_discrete j k) [
    | yes e ↦ rw e (same_field w c g x k v 0 l i (omega (arith, o.holds.long)) ∙ sym (put_same r k v))
    | no d ↦ other_field w g x x k j v 0 i a d ∙ o.own j a ∙ sym (put_other r k v j d)
  ];
  others = λ y j a d. other_row w g x y k j v 0 i a d ∙ o.others y j a d;
}

-- nothing changes where the row has the value already
pub put_none : {A : Type 0} (f : ℕ → A) (x : ℕ) (v : A) → f x ≡ v → (y : ℕ) → put f x v y ≡ f y
put_none f x v e y = elim (ℕ_discrete y x) [ yes z ↦ rw z (put_same f x v ∙ sym e) | no d ↦ put_other f x v y d ]

-- a column with one row replaced, by what the column has there
pub put_at : (f g : ℕ → ℕ) (x v y : ℕ) → f y ≡ g y → put f x v y ≡ put g x v y
unfolding put
put_at f g x v y e = rw e

pub put_given : (f : ℕ → ℕ) (x v y : ℕ) → y ≡ x → put f x v y ≡ v
put_given f x v y e = rw e (put_same f x v)
