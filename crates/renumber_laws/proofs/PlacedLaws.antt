-- The head, and then each row after its parent: what holds of the rows that are placed.
use Rattle.std.specs.Prelude.{◌≡◌, refl, ◌⊎◌, ◌≢◌, List, [], ◌∷◌, ℕ, ◌+◌, ◌*◌, ◌≤◌, ◌<◌}
use Rattle.std.proofs.Common.{ap, sym, ◌∙◌, inl, inr, subst, arith}
use Rattle.std.proofs.Math.Decide.{ℕ_discrete}
use Rattle.laws.specs.Test.{says_true, says_false, says_eqb}
use Rattle.laws.specs.Sum.{sum_of}
use Rattle.laws.specs.Fourth.{fourth}
use Rattle.tree_laws.specs.Ancestor.{none, Anc, here, there}
use Rattle.tree_laws.specs.AncestorLaws.{row_some}
use Rattle.tree_laws.specs.ChildLinks.{Member}
use Rattle.tree_laws.specs.Compressed.{Apex, PathChild, UpperStep}
use Rattle.tree_laws.specs.CompressedLaws.{apex_or, not_apex, says_is_apex}
use Rattle.span.specs.Constants.{width}
use Rattle.renumber_laws.specs.Numbers.{Numbers, head_start, head_placed, top_of, size_of, numbered_below, numbered}
use Rattle.renumber_laws.specs.Placed.{Kept, Placed, p_at, end_at, FilledAt, share, empty, first, Earlier, latest, still, Start, Done}
use Rattle.renumber_laws.proofs.Placed.{placed_is}

only_one : {x y : ℕ} → Member (x ∷ []) y → y ≡ x
only_one (inl e) = e
only_one (inr z) = absurd z

-- Rows that are placed one before the other

pub earlier_left : {l : List ℕ} {v w : ℕ} → Earlier l v w → Member l v
earlier_left (latest z) = inr z
earlier_left (still z) = inr (earlier_left z)

earlier_right : {l : List ℕ} {v w : ℕ} → Earlier l v w → Member l w
earlier_right (latest z) = inl refl
earlier_right (still z) = inr (earlier_right z)

pub earlier_or : (l : List ℕ) (v w : ℕ) → Member l v → Member l w → v ≢ w → Earlier l v w ⊎ Earlier l w v
earlier_or (x ∷ l) v w (inl a) (inl b) d = absurd (d (a ∙ sym b))
earlier_or (x ∷ l) v w (inl a) (inr b) d = inr (rw a (latest b))
earlier_or (x ∷ l) v w (inr a) (inl b) d = inl (rw b (latest a))
earlier_or (x ∷ l) v w (inr a) (inr b) d = elim (earlier_or l v w a b d) [ inl z ↦ inl (still z) | inr z ↦ inr (still z) ]
earlier_or [] v w z _ d = elim z [ ]

share_none : (c : Numbers) (u w : ℕ) → c.upper w ≢ u → share c u w ≡ 0
share_none c u w d = rw (says_false (says_eqb (c.upper w) u) d) (omega arith)

share_one : (c : Numbers) (u w : ℕ) → c.upper w ≡ u → share c u w ≡ fourth (c.set_size w)
share_one c u w e = rw (says_true (says_eqb (c.upper w) u) e) (omega arith)

sum_members : (f g : ℕ → ℕ) (l : List ℕ) → ((w : ℕ) → Member l w → f w ≡ g w) → sum_of f l ≡ sum_of g l
sum_members f g [] h = refl
sum_members f g (x ∷ l) h = omega (arith, h x (inl refl), sum_members f g l (λ w z. h w (inr z)))

sum_nothing : (f : ℕ → ℕ) (l : List ℕ) → ((w : ℕ) → Member l w → f w ≡ 0) → sum_of f l ≡ 0
sum_nothing f [] h = refl
sum_nothing f (x ∷ l) h = omega (arith, h x (inl refl), sum_nothing f l (λ w z. h w (inr z)))

-- The entries of a row that is placed, and of a row whose compressed parent is kept

filled_placed : {c d : Numbers} {x u a k : ℕ} → Placed c d x u a k → u ≢ x → FilledAt d x
filled_placed {c} {d} {x} {u} v o i = rw (v.set_size, v.upper, (v.others u o).entry i) (v.entry i)

filled_kept : {c d : Numbers} {y : ℕ} → Kept c d y → Kept c d (c.upper y) → FilledAt c y → FilledAt d y
filled_kept e g f i = rw (e.set_size, e.upper, g.entry i, e.entry i) (f i)

-- where row x goes, and of what size
record Upward (parent path : ℕ → ℕ) (c : Numbers) (x u : ℕ) : Type 0 where
  apex : Apex parent path (parent x) → u ≡ parent x
  along : PathChild parent path (parent x) → u ≡ c.upper (parent x)

record SizeIs (parent path : ℕ → ℕ) (b : Numbers) (x k : ℕ) : Type 0 where
  apex : Apex parent path x → k ≡ b.size x
  along : PathChild parent path x → k ≡ 1

module _ {parent path rank : ℕ → ℕ} {n h : ℕ} {b : Numbers} (st : Start parent path rank n h b) where
  -- no row below the head is the head's compressed parent
  not_upper : (x : ℕ) → x < n → Anc parent h x → x ≢ b.upper h
  not_upper x l r e = elim (ℕ_discrete (b.upper h) none) [
    | yes z ↦ row_some st.tree l refl (e ∙ z)
    | no z ↦ st.out z (rw e at r)
  ]

  -- The head

  head_done : {d : Numbers} → Placed b d h (b.upper h) (head_start b h) (b.size h) → Done parent path n h b (h ∷ []) d
  head_done {d} v = record {
    once = first (λ z. z) empty;
    head = inl refl;
    in_use = λ x z. rw (only_one z) st.in_use;
    below = λ x z. rw (only_one z) here;
    parents = λ x z i. absurd (i (only_one z));
    kept = λ y o. v.others y (λ e. o (inl e));
    next_free_kept = λ y o. v.next_frees y (λ e. o (inl e));
    upper_head = v.upper;
    start_head = v.start;
    next_free_head = λ i. rw (v.start, v.set_size) (v.above other);
    step = λ x z i. absurd (i (only_one z));
    uppers = λ x z i. absurd (i (only_one z));
    size_apex = λ x z a. rw (only_one z) v.size;
    size_path = λ x z o. absurd (not_apex (rw (only_one z) at o) st.apex);
    set_sizes = λ x z. rw (only_one z) (v.set_size ∙ sym v.size);
    low = λ x z i. absurd (i (only_one z));
    high = λ x z i. absurd (i (only_one z));
    order = λ v w z. absurd (none_earlier z);
    next_frees = λ u z. rw (only_one z) (omega (arith, v.next_free, v.start, ap fourth v.set_size, share_none d h h (λ e. other (sym v.upper ∙ e))));
    filled = λ x z. rw (only_one z) (filled_placed v other);
  }
    where
      other : b.upper h ≢ h
      other e = not_upper h st.in_use here (sym e)

      none_earlier : {v w : ℕ} → ¬ Earlier (h ∷ []) v w
      none_earlier (latest z) = z
      none_earlier (still z) = elim z [ ]

  -- One row more

  module _ {l : List ℕ} {c d : Numbers} {x u k : ℕ} (g : Done parent path n h b l c) (xn : x < n) (new : ¬ Member l x) (some : parent x ≢ none)
      (under : Member l (parent x)) (up : Upward parent path c x u) (sz : SizeIs parent path b x k) (v : Placed c d x u (c.next_free u) k) where
    x_below : Anc parent h x
    x_below = there some (g.below (parent x) under)

    other : (y : ℕ) → Member l y → y ≢ x
    other y z e = new (rw e at z)

    same : (y : ℕ) → Member l y → Kept c d y
    same y z = v.others y (other y z)

    -- the compressed parent is placed
    u_in : Member l u
    u_in = elim (apex_or parent path (parent x)) [
      | inl a ↦ rw (up.apex a) under
      | inr o ↦ rw (up.along o) (g.uppers (parent x) under (λ e. not_apex (rw e at o) st.apex))
    ]

    u_other : u ≢ x
    u_other = other u u_in

    p_same : (y : ℕ) → Member l y → p_at d y ≡ p_at c y
    p_same y z = omega (arith, (same y z).start, ap fourth (same y z).set_size)

    end_same : (y : ℕ) → Member l y → end_at d y ≡ end_at c y
    end_same y z = omega (arith, (same y z).start, ap fourth (same y z).set_size)

    -- no next free number falls
    grows : (y : ℕ) → Member l y → c.next_free y ≤ d.next_free y
    grows y z = elim (ℕ_discrete y u) [ yes e ↦ rw e (omega (arith, v.above u_other)) | no e ↦ omega (arith, v.next_frees y (other y z) e) ]

    -- a compressed child of u that was placed before ends where x begins, or earlier
    before : (y : ℕ) → Member l y → y ≢ h → d.upper y ≡ u → end_at d y ≤ d.start x
    before y z i e = omega (arith, end_same y z, v.start, rw (sym (same y z).upper ∙ e) at (g.high y z i))

    upper_other : (y : ℕ) → Member l y → c.upper y ≢ x
    upper_other y z e = elim (ℕ_discrete y h) [
      | yes i ↦ not_upper x xn x_below (sym e ∙ ap c.upper i ∙ g.upper_head)
      | no i ↦ other (c.upper y) (g.uppers y z i) e
    ]

    -- the shares of u
    share_same : (a w : ℕ) → Member l w → share d a w ≡ share c a w
    share_same a w z = rw ((same w z).upper, (same w z).set_size)

    sum_same : (a : ℕ) → sum_of (share d a) l ≡ sum_of (share c a) l
    sum_same a = sum_members (share d a) (share c a) l (share_same a)

    share_x : share d u x ≡ fourth k
    share_x = share_one d u x v.upper ∙ ap fourth v.set_size

    step_x : UpperStep parent path d.upper x
    step_x = record {
      root = λ e. absurd (some e);
      apex = λ i a. v.upper ∙ up.apex a;
      along = λ i o. v.upper ∙ up.along o ∙ sym (same (parent x) under).upper;
    }

    step_y : (y : ℕ) → Member l y → y ≢ h → UpperStep parent path d.upper y
    step_y y z i = record {
      root = λ e. (same y z).upper ∙ (g.step y z i).root e;
      apex = λ j a. (same y z).upper ∙ (g.step y z i).apex j a;
      along = λ j o. (same y z).upper ∙ (g.step y z i).along j o ∙ sym (same (parent y) (g.parents y z i)).upper;
    }

    -- no row that is placed stands below x yet
    childless : (w : ℕ) → Member (x ∷ l) w → d.upper w ≢ x
    childless w (inl e) i = u_other (sym v.upper ∙ ap d.upper (sym e) ∙ i)
    childless w (inr z) i = upper_other w z (sym (same w z).upper ∙ i)

    abbrev next_free_as : List ℕ → ℕ → Type 0
    next_free_as m y = d.next_free y ≡ p_at d y + width * sum_of (share d y) m

    next_free_x : d.next_free x ≡ p_at d x + width * sum_of (share d x) (x ∷ l)
    next_free_x = omega (
      arith,
      v.next_free,
      v.start,
      ap fourth v.set_size,
      sum_nothing (share d x) (x ∷ l) (λ w z. share_none d x w (childless w z)),
    )

    next_free_y : (y : ℕ) → Member l y → d.next_free y ≡ p_at d y + width * sum_of (share d y) (x ∷ l)
    next_free_y y z = elim (ℕ_discrete y u) [
      | yes e ↦ subst (next_free_as (x ∷ l)) (sym e) (omega (arith, v.above u_other, p_same u u_in, g.next_frees u u_in, share_x, sum_same u))
      | no e ↦ omega (
        arith,
        v.next_frees y (other y z) e,
        p_same y z,
        g.next_frees y z,
        share_none d y x (λ i. e (sym i ∙ v.upper)),
        sum_same y,
      )
    ]

    in_order : {y w : ℕ} → Earlier (x ∷ l) y w → y ≢ h → w ≢ h → d.upper y ≡ d.upper w → end_at d y ≤ d.start w
    in_order {y} (latest z) i j e = before y z i (e ∙ v.upper)
    in_order {y} {w} (still z) i j e =
        let p = same y (earlier_left z) in
        let q = same w (earlier_right z) in
        rw (end_same y (earlier_left z), q.start) (g.order y w z i j (sym p.upper ∙ e ∙ q.upper))

    row_done : Done parent path n h b (x ∷ l) d
    row_done = record {
      once = first new g.once;
      head = inr g.head;
      in_use = λ y z. elim z [ inl e ↦ rw e xn | inr o ↦ g.in_use y o ];
      below = λ y z. elim z [ inl e ↦ rw e x_below | inr o ↦ g.below y o ];
      parents = λ y z i. elim z [ inl e ↦ rw e (inr under) | inr o ↦ inr (g.parents y o i) ];
      kept = λ y o. both (v.others y (λ e. o (inl e))) (g.kept y (λ z. o (inr z)));
      next_free_kept = λ y o i. v.next_frees y (λ e. o (inl e)) (λ e. o (inr (rw e u_in))) ∙ g.next_free_kept y (λ z. o (inr z)) i;
      upper_head = (same h g.head).upper ∙ g.upper_head;
      start_head = (same h g.head).start ∙ g.start_head;
      next_free_head = λ i. v.next_frees (b.upper h) (λ e. not_upper x xn x_below (sym e)) (λ e. not_upper u (g.in_use u u_in) (g.below u u_in) (sym e))
          ∙ g.next_free_head i ∙ sym (end_same h g.head);
      step = λ y z i. elim z [ inl e ↦ rw e step_x | inr o ↦ step_y y o i ];
      uppers = λ y z i. elim z [ inl e ↦ rw (e, v.upper) (inr u_in) | inr o ↦ rw (same y o).upper (inr (g.uppers y o i)) ];
      size_apex = λ y z a. elim z [ inl e ↦ rw e (v.size ∙ sz.apex (rw e at a)) | inr o ↦ (same y o).size ∙ g.size_apex y o a ];
      size_path = λ y z a. elim z [ inl e ↦ rw e (v.size ∙ sz.along (rw e at a)) | inr o ↦ (same y o).size ∙ g.size_path y o a ];
      set_sizes = λ y z. elim z [
        | inl e ↦ rw e (v.set_size ∙ sym v.size)
        | inr o ↦ (same y o).set_size ∙ g.set_sizes y o ∙ sym (same y o).size
      ];
      low = λ y z i. elim z [
        | inl e ↦ rw (e, v.upper) (omega (arith, p_same u u_in, v.start, g.next_frees u u_in))
        | inr o ↦ rw (same y o).upper (omega (arith, p_same (c.upper y) (g.uppers y o i), (same y o).start, g.low y o i))
      ];
      high = λ y z i. elim z [
        | inl e ↦ rw (e, v.upper) (omega (arith, v.above u_other, v.start, ap fourth v.set_size))
        | inr o ↦ rw (same y o).upper (omega (arith, end_same y o, grows (c.upper y) (g.uppers y o i), g.high y o i))
      ];
      order = λ y w z. in_order z;
      next_frees = λ y z. elim z [ inl e ↦ subst (next_free_as (x ∷ l)) (sym e) next_free_x | inr o ↦ next_free_y y o ];
      filled = λ y z. elim z [
        | inl e ↦ rw e (filled_placed v u_other)
        | inr o ↦ filled_kept (same y o) (v.others (c.upper y) (upper_other y o)) (g.filled y o)
      ];
    }
      where
        both : {y : ℕ} → Kept c d y → Kept b c y → Kept b d y
        both p q = record {
          upper = p.upper ∙ q.upper;
          size = p.size ∙ q.size;
          set_size = p.set_size ∙ q.set_size;
          start = p.start ∙ q.start;
          entry = λ i. p.entry i ∙ q.entry i;
        }

  -- The visits

  pub head_numbered : Done parent path n h b (h ∷ []) (head_placed h b)
  unfolding head_placed
  head_numbered = head_done (placed_is h (b.upper h) (head_start b h) (b.size h) b)

  upward : (c : Numbers) (x : ℕ) → Upward parent path c x (top_of parent path c (parent x))
  unfolding top_of
  upward c x = record {
    apex = λ a. rw (says_true (says_is_apex parent path (parent x)) a);
    along = λ o. rw (says_false (says_is_apex parent path (parent x)) (not_apex o));
  }

  size_is : (c : Numbers) (x : ℕ) → parent x ≢ none → c.size x ≡ b.size x → SizeIs parent path b x (size_of parent path c x)
  unfolding size_of
  size_is c x some e = record {
    apex = λ a. rw (says_false (says_eqb (path (parent x)) x) (a some)) e;
    along = λ o. rw (says_true (says_eqb (path (parent x)) x) o.link);
  }

  pub row_numbered : {l : List ℕ} {c : Numbers} {x : ℕ} → Done parent path n h b l c → x < n → ¬ Member l x → parent x ≢ none → Member l (parent x)
      → Done parent path n h b (x ∷ l) (numbered parent path x c)
  unfolding numbered numbered_below
  row_numbered {c = c} {x} g xn new some under =
      row_done g xn new some under (upward c x) (size_is c x some (g.kept x new).size) (placed_is x _ _ _ c)
