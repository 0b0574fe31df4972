-- What is proved of `NumbersLaws`.
use Rattle.std.specs.Prelude.{◌≡◌, refl, ◌⊎◌, ◌≢◌, List, [], ◌∷◌, ℕ, ◌+◌, ◌<◌, length}
use Rattle.std.proofs.Common.{sym, ◌∙◌, inl, inr, arith}
use Rattle.std.proofs.Math.Decide.{ℕ_discrete}
use Rattle.laws.specs.Sum.{sum_to, sum_eq, sum_zero, sum_at, sum_of}
use Rattle.tree_laws.specs.Ancestor.{none, Anc, here, there}
use Rattle.tree_laws.specs.AncestorLaws.{cases, row_some}
use Rattle.tree_laws.specs.ChildLinks.{Member}
use Rattle.tree_laws.specs.Compressed.{PathLinks}
use Rattle.tree_laws.specs.HeavyLast.{heavy_last}
use Rattle.tree_laws.specs.HeavyLastLaws.{arranged_below}
use Rattle.tree_laws.specs.Siblings.{Kin, nil, node, count, In, Distinct, apart, Links, Reads, stop, more, Whole, all, Below}
use Rattle.tree_laws.specs.SiblingsLaws.{reads_distinct, anc_in_kin, size_count}
use Rattle.tree_laws.specs.Walk.{sweep, on_entry}
use Rattle.renumber_laws.specs.Column.{put}
use Rattle.renumber_laws.proofs.Column.{put_same, put_other}
use Rattle.renumber_laws.specs.Numbers.{Numbers, head_placed, numbered, number_pass}
use Rattle.renumber_laws.specs.Placed.{Once, empty, first, Earlier, latest, still, Start, Done}
use Rattle.renumber_laws.proofs.PlacedLaws.{head_numbered, row_numbered}
use Rattle.renumber_laws.proofs.SizesSwept.{head_not_in}
use Rattle.renumber_laws.specs.NumbersLaws.{AllPlaced}

-- The rows of a forest, the last first, before those of l

abbrev pushed : Kin → List ℕ → List ℕ
pushed nil l = l
pushed (node r kids rest) l = pushed rest (pushed kids (r ∷ l))

pushed_old : (f : Kin) (l : List ℕ) (x : ℕ) → Member l x → Member (pushed f l) x
pushed_old nil l x z = z
pushed_old (node r kids rest) l x z = pushed_old rest (pushed kids (r ∷ l)) x (pushed_old kids (r ∷ l) x (inr z))

pushed_in : (f : Kin) (l : List ℕ) (x : ℕ) → In f x → Member (pushed f l) x
pushed_in (node r kids rest) l x (inl e) = pushed_old rest (pushed kids (r ∷ l)) x (pushed_old kids (r ∷ l) x (inl e))
pushed_in (node r kids rest) l x (inr (inl z)) = pushed_old rest (pushed kids (r ∷ l)) x (pushed_in kids (r ∷ l) x z)
pushed_in (node r kids rest) l x (inr (inr z)) = pushed_in rest (pushed kids (r ∷ l)) x z
pushed_in nil l x z = elim z [ ]

pushed_or : (f : Kin) (l : List ℕ) (x : ℕ) → Member (pushed f l) x → Member l x ⊎ In f x
pushed_or nil l x z = inl z
pushed_or (node r kids rest) l x z = elim (pushed_or rest (pushed kids (r ∷ l)) x z) [
  | inr y ↦ inr (inr (inr y))
  | inl y ↦ elim (pushed_or kids (r ∷ l) x y) [
    | inr o ↦ inr (inr (inl o))
    | inl o ↦ elim o [ inl e ↦ inr (inl e) | inr a ↦ inl a ]
  ]
]

-- those of l come first
pushed_keeps : (f : Kin) {l : List ℕ} {x y : ℕ} → Earlier l x y → Earlier (pushed f l) x y
pushed_keeps nil z = z
pushed_keeps (node r kids rest) z = pushed_keeps rest (pushed_keeps kids (still z))

pushed_later : (f : Kin) (l : List ℕ) (x y : ℕ) → Member l x → In f y → Earlier (pushed f l) x y
pushed_later (node r kids rest) l x y m (inl e) = rw e (pushed_keeps rest (pushed_keeps kids (latest m)))
pushed_later (node r kids rest) l x y m (inr (inl z)) = pushed_keeps rest (pushed_later kids (r ∷ l) x y (inr m) z)
pushed_later (node r kids rest) l x y m (inr (inr z)) = pushed_later rest (pushed kids (r ∷ l)) x y (pushed_old kids (r ∷ l) x (inr m)) z
pushed_later nil l x y m z = elim z [ ]

-- a row comes before its children
pushed_below : {k : Links} {v c : ℕ} {f : Kin} (l : List ℕ) (w : ℕ) → Reads k v c f → Member l v → In f w → Earlier (pushed f l) (k.parent w) w
pushed_below l w (more {kids = kids} {rest} d e p q) m (inl z) = rw (z, e) (pushed_keeps rest (pushed_keeps kids (latest m)))
pushed_below {c = c} l w (more {rest = rest} d e p q) m (inr (inl z)) = pushed_keeps rest (pushed_below (c ∷ l) w p (inl refl) z)
pushed_below {v = v} {c} l w (more {kids = kids} d e p q) m (inr (inr z)) = pushed_below (pushed kids (c ∷ l)) w q (pushed_old kids (c ∷ l) v (inr m)) z
pushed_below l w (stop _) m z = elim z [ ]

-- siblings come in the order of the links
next_in : {k : Links} {v c x : ℕ} {f : Kin} → Reads k v c f → c ≢ none → Anc k.next x c → In f x
next_in (stop e) i a = absurd (i e)
next_in (more d e p q) i here = inl refl
next_in (more d e p q) i (there n a) = inr (inr (next_in q n a))

pushed_next : {k : Links} {v c w x : ℕ} {f : Kin} (l : List ℕ) → Reads k v c f → In f w → Anc k.next x w → w ≢ x → Earlier (pushed f l) w x
pushed_next {c = c} {x = x} l (more {kids = kids} {rest} d e p q) (inl z) a o = elim (cases (rw z at a)) [
  | inl y ↦ absurd (o (z ∙ sym y))
  | inr y ↦ rw z (pushed_later rest (pushed kids (c ∷ l)) c x (pushed_old kids (c ∷ l) c (inl refl)) (next_in q y.0 y.1))
]
pushed_next {c = c} l (more {rest = rest} d e p q) (inr (inl z)) a o = pushed_keeps rest (pushed_next (c ∷ l) p z a o)
pushed_next {c = c} l (more {kids = kids} d e p q) (inr (inr z)) a o = pushed_next (pushed kids (c ∷ l)) q z a o
pushed_next l (stop _) z a o = elim z [ ]

pushed_length : (f : Kin) (l : List ℕ) → length (pushed f l) ≡ length l + count f
pushed_length nil l = omega arith
pushed_length (node r kids rest) l = omega (arith, pushed_length rest (pushed kids (r ∷ l)), pushed_length kids (r ∷ l))

-- The sum over rows that stand once is the sum over all rows, if the others add nothing

pub sum_once : (g : ℕ → ℕ) (n : ℕ) {l : List ℕ} → Once l → ((w : ℕ) → Member l w → w < n)
    → ((w : ℕ) → w < n → ¬ Member l w → g w ≡ 0) → sum_of g l ≡ sum_to g n
sum_once g n empty i h = sym (sum_eq g (λ j. 0) n (λ w k. h w k (λ z. z)) ∙ sum_zero n)
sum_once g n (first {x = x} {l} o u) i h = omega (
  arith,
  same l (λ w z e. o (rw e at z)),
  sum_once (put g x 0) n u (λ w z. i w (inr z)) (λ w k z. elim (ℕ_discrete w x) [
    | yes e ↦ rw e (put_same g x 0)
    | no d ↦ put_other g x 0 w d ∙ h w k (λ y. elim y [ inl e ↦ d e | inr a ↦ z a ])
  ]),
  sum_at g (put g x 0) n x (i x (inl refl)) (λ w k d. sym (put_other g x 0 w d)),
  put_same g x 0,
)
  where
    same : (l : List ℕ) → ((w : ℕ) → Member l w → w ≢ x) → sum_of g l ≡ sum_of (put g x 0) l
    same [] h = refl
    same (y ∷ l) h = omega (arith, put_other g x 0 y (h y (inl refl)), same l (λ w z. h w (inr z)))

-- The sweep

module _ (k : Links) {path rank : ℕ → ℕ} {n h : ℕ} {b : Numbers} (st : Start k.parent path rank n h b) where
  sweep_done : {v c : ℕ} {f : Kin} (l : List ℕ) (s : Numbers) → v < n → Member l v → Reads k v c f → Whole k.parent n f → Distinct f
      → ((x : ℕ) → In f x → ¬ Member l x) → Done k.parent path n h b l s
      → Done k.parent path n h b (pushed f l) (sweep (on_entry (numbered k.parent path)) f s)
  sweep_done {f = nil} l s i m r w d o g = g
  sweep_done {v} {f = node r kids rest} l s i m (more some e p q) (all j full w u) (apart new alone two x y) o g =
      let now : Done k.parent path n h b (r ∷ l) (numbered k.parent path r s) =
      row_numbered st g j (o r (inl refl)) (row_some st.tree i e) (rw e m) in
      let below = sweep_done (r ∷ l) (numbered k.parent path r s) j (inl refl) p w x in_new now in
      sweep_done (pushed kids (r ∷ l)) (sweep (on_entry (numbered k.parent path)) kids (numbered k.parent path r s)) i
      (pushed_old kids (r ∷ l) v (inr m)) q u y rest_new below
    where
      in_new : (x : ℕ) → In kids x → ¬ Member (r ∷ l) x
      in_new x z a = elim a [ inl e ↦ new (rw e at z) | inr y ↦ o x (inr (inl z)) y ]

      rest_new : (x : ℕ) → In rest x → ¬ Member (pushed kids (r ∷ l)) x
      rest_new x z a = elim (pushed_or kids (r ∷ l) x a) [
        | inr y ↦ two x y z
        | inl y ↦ elim y [ inl e ↦ alone (rw e at z) | inr c ↦ o x (inr (inr z)) c ]
      ]

module _ (k : Links) {path rank : ℕ → ℕ} {n h : ℕ} {b : Numbers} {f : Kin} (st : Start k.parent path rank n h b) (u : Below k n h f) where
  -- in the order of the links k
  sweep_all : AllPlaced k.parent path k.next rank n h b (sweep (on_entry (numbered k.parent path)) f (head_placed h b))
  sweep_all = record {
    list = pushed f (h ∷ []);
    done = sweep_done k st (h ∷ []) (head_placed h b) st.in_use (inl refl) u.reads u.whole (reads_distinct k st.tree st.in_use u.whole u.reads)
        (λ x z y. elim y [ inl e ↦ head_not_in k st.tree st.in_use u (rw e at z) | inr a ↦ a ]) (head_numbered st);
    every = λ x i a. elim (anc_in_kin k st.tree st.in_use u i a) [ inl e ↦ pushed_old f (h ∷ []) x (inl (sym e)) | inr z ↦ pushed_in f (h ∷ []) x z ];
    long = omega (arith, pushed_length f (h ∷ []), size_count k st.tree st.in_use u);
    below = λ x i a o. pushed_below (h ∷ []) x u.reads (inl refl) (under x i a o);
    along = λ w x i a o. pushed_next (h ∷ []) u.reads (under w i a o);
  }
    where
      under : (x : ℕ) → x < n → Anc k.parent h x → x ≢ h → In f x
      under x i a o = elim (anc_in_kin k st.tree st.in_use u i a) [ inl e ↦ absurd (o (sym e)) | inr z ↦ z ]

-- with the heavy child last
pub numbers_swept : (k : Links) {path rank : ℕ → ℕ} {n h : ℕ} {b : Numbers} {f : Kin} → Start k.parent path rank n h b → PathLinks k.parent path n
    → Below k n h f → AllPlaced k.parent path (heavy_last k path).next rank n h b (number_pass k.parent path h f b)
unfolding number_pass heavy_last
numbers_swept k {path} {b = b} st g u = sweep_all (heavy_last k path) st (arranged_below k path g st.in_use u)
