-- What is proved of `AttachExact`.
use Rattle.std.specs.Prelude.{◌≡◌, ◌⊎◌, ◌≢◌, List, ℕ, ◌+◌, ◌≤◌, ◌<◌, eqb}
use Rattle.std.proofs.Math.Path.{refl, ap, sym}
use Rattle.std.proofs.Common.{◌∙◌, inl, inr, arith}
use Rattle.std.proofs.Math.Decide.{ℕ_discrete}
use Rattle.laws.specs.Test.{pick}
use Rattle.tree_laws.specs.Ancestor.{none, Anc, Forest}
use Rattle.tree_laws.specs.Join.{Old, Alone}
use Rattle.tree_laws.specs.JoinLaws.{old_up, old_anc}
use Rattle.layer.specs.Layout.{field_stride, parent_place, first_place, last_place, next_place, upper_place, path_place, size_place, set_size_place, depth_place}
use Rattle.layer.specs.Row.{field_at}
use Rattle.layer.specs.Write.{with_field}
use Rattle.renumber_laws.specs.Column.{put}
use Rattle.renumber_laws.proofs.Column.{put_same, put_other}
use Rattle.join.specs.declared.attach.Leaf.{Leaf}
use Rattle.join.specs.Attach.{first_of, new_links, new_values, linked, attached}
use Rattle.join.specs.Chain.{raised}
use Rattle.renumber_exact.specs.Columns.{Holds, holds_set, set_link, set_other, put_at, RowView, row_same, row_set}
use Rattle.join_exact.specs.RaiseExact.{going}
use Rattle.join_exact.proofs.RaiseExact.{Raised, raise}
use Rattle.join_exact.specs.AttachExact.{Attached}

-- a place past the one stored at
pub put_past : (g : ℕ → ℕ) (x v y : ℕ) → x < y → put g x v y ≡ g y
put_past g x v y l = put_other g x v y (λ e. omega arith)

module _ {up rank : ℕ → ℕ} {c N : ℕ} (fuel : ℕ) (f : List ℕ) (n v w u depth : ℕ) (t : Forest up rank N) (h : Holds field_stride c f) (rooms : N ≤ c)
    (alone : Alone up N n) (v_in : Old N n v) (w_in : (w ≡ none) ⊎ Old N n w) (u_in : Old N n u) (deep : rank u < fuel)
    (uppers : (y : ℕ) → Old N n y → field_at f y upper_place ≡ up y) (small : (y : ℕ) → Old N n y → field_at f y size_place < 65535) where
  room : n < c
  room = omega (arith, alone.inside)

  abbrev leaf : Leaf
  leaf = record { row = n; parent = v; prev = w }

  -- the new row by its fields
  abbrev own : ℕ → ℕ
  own = put (put (put (put (put (put (put (put (put (λ j. field_at f n j) parent_place v) first_place none) last_place none) next_place none)
      upper_place u) path_place none) size_place 1) set_size_place 0) depth_place depth

  abbrev with_row : List ℕ
  with_row = new_values (new_links f n v u) n depth

  row : RowView field_stride c f n with_row own
  unfolding new_links new_values
  row =
      row_set _ (row_set _ (row_set _ (row_set _ (row_set _ (row_set _ (row_set _ (row_set _ (row_set _ (row_same h n)
      room parent_place v (omega arith)) room first_place none (omega arith)) room last_place none (omega arith)) room next_place none (omega arith))
      room upper_place u (omega arith)) room path_place none (omega arith)) room size_place 1 (omega arith)) room set_size_place 0 (omega arith))
      room depth_place depth (omega arith)

  row_rest : (y k : ℕ) → depth_place < k → k < field_stride → field_at with_row y k ≡ field_at f y k
  row_rest y k a b = elim (ℕ_discrete y n) [
    | yes e ↦ rw e (row.own k b ∙ own_rest k a)
    | no d ↦ row.others y k b d
  ]
    where
      own_rest : (k : ℕ) → depth_place < k → own k ≡ field_at f n k
      own_rest k a = put_past _ depth_place depth k a ∙ put_past _ set_size_place 0 k (omega arith) ∙ put_past _ size_place 1 k (omega arith)
          ∙ put_past _ path_place none k (omega arith) ∙ put_past _ upper_place u k (omega arith) ∙ put_past _ next_place none k (omega arith)
          ∙ put_past _ last_place none k (omega arith) ∙ put_past _ first_place none k (omega arith) ∙ put_past _ parent_place v k (omega arith)

  some : (y : ℕ) → y < c → y ≢ none
  some y l e = omega (arith, h.most)

  -- the links to it
  in_part : {x : ℕ} → (x ≡ none) ⊎ Old N n x → (x ≡ none) ⊎ (x < c)
  in_part (inl e) = inl e
  in_part (inr l) = inr (omega (arith, l.inside))

  not_new : {x : ℕ} → (x ≡ none) ⊎ Old N n x → n ≢ x
  not_new (inl e) z = omega (arith, room, h.most)
  not_new (inr l) z = l.other (sym z)

  abbrev first₁ : List ℕ
  first₁ = with_field with_row v first_place (first_of with_row leaf)

  abbrev next₁ : List ℕ
  next₁ = with_field first₁ w next_place n

  holds₁ : Holds field_stride c first₁
  holds₁ = holds_set row.holds _ _

  holds₂ : Holds field_stride c next₁
  holds₂ = holds_set holds₁ _ _

  linked_holds : Holds field_stride c (linked with_row leaf)
  unfolding linked
  linked_holds = holds_set holds₂ _ _

  linked_first : (y : ℕ) → y < c → field_at (linked with_row leaf) y first_place ≡ put (λ z. field_at with_row z first_place) v (first_of with_row leaf) y
  unfolding linked
  linked_first y l = set_other holds₂ v last_place n (omega arith) y first_place (omega arith) (λ e. omega arith)
      ∙ set_other holds₁ w next_place n (omega arith) y first_place (omega arith) (λ e. omega arith)
      ∙ set_link row.holds v first_place (first_of with_row leaf) (in_part (inr v_in)) (omega arith) (λ z. field_at with_row z first_place) y (some y l) refl

  linked_next : (y : ℕ) → y < c → field_at (linked with_row leaf) y next_place ≡ put (λ z. field_at with_row z next_place) w n y
  unfolding linked
  linked_next y l = set_other holds₂ v last_place n (omega arith) y next_place (omega arith) (λ e. omega arith)
      ∙ set_link holds₁ w next_place n (in_part w_in) (omega arith) (λ z. field_at with_row z next_place) y (some y l)
      (set_other row.holds v first_place (first_of with_row leaf) (omega arith) y next_place (omega arith) (λ e. omega arith))

  linked_last : (y : ℕ) → y < c → field_at (linked with_row leaf) y last_place ≡ put (λ z. field_at with_row z last_place) v n y
  unfolding linked
  linked_last y l = set_link holds₂ v last_place n (in_part (inr v_in)) (omega arith) (λ z. field_at with_row z last_place) y (some y l)
      (set_other holds₁ w next_place n (omega arith) y last_place (omega arith) (λ e. omega arith)
      ∙ set_other row.holds v first_place (first_of with_row leaf) (omega arith) y last_place (omega arith) (λ e. omega arith))

  linked_rest : (y k : ℕ) → k < field_stride → k ≢ first_place → k ≢ next_place → k ≢ last_place → field_at (linked with_row leaf) y k ≡ field_at with_row y k
  unfolding linked
  linked_rest y k l d₁ d₂ d₃ = set_other holds₂ v last_place n (omega arith) y k l d₃ ∙ set_other holds₁ w next_place n (omega arith) y k l d₂
      ∙ set_other row.holds v first_place (first_of with_row leaf) (omega arith) y k l d₁

  -- the sizes of the chain
  before : (y : ℕ) → y ≢ n → field_at (linked with_row leaf) y size_place ≡ field_at f y size_place
  before y l = linked_rest y size_place (omega arith) (λ e. omega arith) (λ e. omega arith) (λ e. omega arith) ∙ row.others y size_place (omega arith) l

  chain_in : {y : ℕ} → Anc up y u → Old N n y
  chain_in a = old_anc t alone u_in a

  grown : Raised up c (linked with_row leaf) u (raised fuel (linked with_row leaf) u)
  grown = raise {In = Old N n} t rooms (λ y o. o.inside) (λ y o d. old_up t alone y o d) fuel (linked with_row leaf) u linked_holds (going u_in deep)
      (λ y o. linked_rest y upper_place (omega arith) (λ e. omega arith) (λ e. omega arith) (λ e. omega arith) ∙ row.others y upper_place (omega arith) o.other
      ∙ uppers y o)
      (λ y d a. let i = chain_in a in rw (before y i.other) (small y i))

  -- the new row, and the links that changed
  new : (k : ℕ) → k < field_stride → k ≢ size_place → k ≢ first_place → k ≢ next_place → k ≢ last_place → field_at (raised fuel (linked with_row leaf) u) n k ≡ own k
  new k l d₁ d₂ d₃ d₄ = grown.rest n k l d₁ ∙ linked_rest n k l d₂ d₃ d₄ ∙ row.own k l

  sized : field_at (raised fuel (linked with_row leaf) u) n size_place ≡ own size_place
  sized = grown.off n (λ d a. (chain_in a).other refl)
      ∙ linked_rest n size_place (omega arith) (λ e. omega arith) (λ e. omega arith) (λ e. omega arith) ∙ row.own size_place (omega arith)

  first_new_lem : field_at (raised fuel (linked with_row leaf) u) n first_place ≡ own first_place
  first_new_lem = grown.rest n first_place (omega arith) (λ e. omega arith) ∙ linked_first n room
      ∙ put_other (λ z. field_at with_row z first_place) v (first_of with_row leaf) n (not_new (inr v_in)) ∙ row.own first_place (omega arith)

  last_new_lem : field_at (raised fuel (linked with_row leaf) u) n last_place ≡ own last_place
  last_new_lem = grown.rest n last_place (omega arith) (λ e. omega arith) ∙ linked_last n room
      ∙ put_other (λ z. field_at with_row z last_place) v n n (not_new (inr v_in)) ∙ row.own last_place (omega arith)

  next_new_lem : field_at (raised fuel (linked with_row leaf) u) n next_place ≡ own next_place
  next_new_lem = grown.rest n next_place (omega arith) (λ e. omega arith) ∙ linked_next n room
      ∙ put_other (λ z. field_at with_row z next_place) w n n (not_new w_in) ∙ row.own next_place (omega arith)

  last_old : (y : ℕ) → y < c → y ≢ n → field_at (raised fuel (linked with_row leaf) u) y last_place ≡ put (λ z. field_at f z last_place) v n y
  last_old y i l = grown.rest y last_place (omega arith) (λ e. omega arith) ∙ linked_last y i
      ∙ put_at (λ z. field_at with_row z last_place) (λ z. field_at f z last_place) v n y (row.others y last_place (omega arith) l)

  next_old : (y : ℕ) → y < c → y ≢ n → field_at (raised fuel (linked with_row leaf) u) y next_place ≡ put (λ z. field_at f z next_place) w n y
  next_old y i l = grown.rest y next_place (omega arith) (λ e. omega arith) ∙ linked_next y i
      ∙ put_at (λ z. field_at with_row z next_place) (λ z. field_at f z next_place) w n y (row.others y next_place (omega arith) l)

  first_old : (y : ℕ) → y < c → y ≢ n → field_at (raised fuel (linked with_row leaf) u) y first_place
      ≡ put (λ z. field_at f z first_place) v (pick (eqb w none) n (field_at f v first_place)) y
  unfolding first_of
  first_old y i l = grown.rest y first_place (omega arith) (λ e. omega arith) ∙ linked_first y i ∙ elim (ℕ_discrete y v) [
    | yes e ↦ rw e (put_same (λ z. field_at with_row z first_place) v (pick (eqb w none) n (field_at with_row v first_place))
        ∙ ap (λ (z : ℕ). pick (eqb w none) n z) (row.others v first_place (omega arith) v_in.other)
        ∙ sym (put_same (λ z. field_at f z first_place) v (pick (eqb w none) n (field_at f v first_place))))
    | no d ↦ put_other (λ z. field_at with_row z first_place) v (pick (eqb w none) n (field_at with_row v first_place)) y d
        ∙ row.others y first_place (omega arith) l ∙ sym (put_other (λ z. field_at f z first_place) v (pick (eqb w none) n (field_at f v first_place)) y d)
  ]

  pub attach : Attached up c f n v w u depth (attached fuel f leaf u depth)
  unfolding attached put
  attach = record {
    holds = grown.holds;
    kept = λ y k l q. grown.rest y k q.within q.size ∙ linked_rest y k q.within q.first q.next q.last ∙ row.others y k q.within l;
    first = first_old;
    last = last_old;
    next = next_old;
    size_chain = λ d y l a. grown.chain d y a ∙ ap (λ (s : ℕ). s + 1) (before y l);
    size_rest = λ y l o. grown.off y o ∙ before y l;
    parent_new = new parent_place (omega arith) (λ e. omega arith) (λ e. omega arith) (λ e. omega arith) (λ e. omega arith);
    first_new = first_new_lem;
    last_new = last_new_lem;
    next_new = next_new_lem;
    upper_new = new upper_place (omega arith) (λ e. omega arith) (λ e. omega arith) (λ e. omega arith) (λ e. omega arith);
    path_new = new path_place (omega arith) (λ e. omega arith) (λ e. omega arith) (λ e. omega arith) (λ e. omega arith);
    size_new = sized;
    set_size_new = new set_size_place (omega arith) (λ e. omega arith) (λ e. omega arith) (λ e. omega arith) (λ e. omega arith);
    rest = λ y k a b. grown.rest y k b (λ e. omega arith) ∙ linked_rest y k b (λ e. omega arith) (λ e. omega arith) (λ e. omega arith) ∙ row_rest y k a b;
    depth_new = new depth_place (omega arith) (λ e. omega arith) (λ e. omega arith) (λ e. omega arith) (λ e. omega arith);
  }
