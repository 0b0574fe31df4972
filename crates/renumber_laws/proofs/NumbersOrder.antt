-- The walk for numbers gives starts going down the path: a row before its children, light children in the order of the links, the next row of the path last.
use Rattle.std.specs.Prelude.{◌≡◌, ◌≢◌, ℕ, ◌≤◌, ◌<◌}
use Rattle.std.proofs.Common.{ap, sym, ◌∙◌, inl, inr, arith}
use Rattle.laws.specs.Fourth.{fourth_pos}
use Rattle.tree_laws.specs.Ancestor.{none, Anc, Forest}
use Rattle.tree_laws.specs.AncestorLaws.{trans, parent_over, row_some, no_loop}
use Rattle.tree_laws.specs.ChildLinks.{Member}
use Rattle.tree_laws.specs.Compressed.{PathChild, PathLinks, UpperStep}
use Rattle.tree_laws.specs.CompressedLaws.{apex_or, not_apex}
use Rattle.tree_laws.specs.HeavyLast.{heavy_last}
use Rattle.tree_laws.specs.HeavyLastOrder.{ReadFrom, in_read, light_after, path_after}
use Rattle.tree_laws.specs.Siblings.{Kin, Links, Below}
use Rattle.tree_laws.specs.SiblingsLaws.{anc_in_kin}
use Rattle.renumber_laws.specs.Numbers.{Numbers}
use Rattle.renumber_laws.specs.Placed.{Earlier, Start}
use Rattle.renumber_laws.proofs.PlacedLaws.{earlier_left}
use Rattle.renumber_laws.specs.NumbersLaws.{AllPlaced}

-- w is a child of v, and v lies at or below h
pub record ChildBelow (parent : ℕ → ℕ) (n h v w : ℕ) : Type 0 where
  pub in_use : w < n
  pub over : parent w ≡ v
  pub some : parent w ≢ none
  pub below : Anc parent h w
  pub other : w ≢ h

pub child_below : {parent rank : ℕ → ℕ} {n h v w : ℕ} → Forest parent rank n → h < n → v < n → Anc parent h v → w < n → parent w ≡ v → ChildBelow parent n h v w
child_below {parent} {h = h} t i l b j e = record {
  in_use = j;
  over = e;
  some = row_some t l e;
  below = trans b (parent_over (row_some t l e) e);
  other = λ z. let o = ap parent (sym z) ∙ e in no_loop t h i (row_some t l o) (rw o b);
}

module _ (k : Links) {path rank : ℕ → ℕ} {n h : ℕ} {b c : Numbers} {f : Kin} (st : Start k.parent path rank n h b) (g : PathLinks k.parent path n)
    (u : Below k n h f) (a : AllPlaced k.parent path (heavy_last k path).next rank n h b c) (full : (x : ℕ) → Member a.list x → 1 ≤ c.set_size x) where
  -- of two compressed siblings the one that is placed first starts first
  earlier_starts : {v w : ℕ} → Earlier a.list v w → v ≢ h → w ≢ h → c.upper v ≡ c.upper w → c.start v < c.start w
  earlier_starts {v} {w} z i j e = omega (arith, a.done.order v w z i j e, fourth_pos (c.set_size v) (full v (earlier_left z)))

  step : {v w : ℕ} → ChildBelow k.parent n h v w → UpperStep k.parent path c.upper w
  step {w = w} p = a.done.step w (a.every w p.in_use p.below) p.other

  -- children of one row are compressed siblings
  one_upper : {v w x : ℕ} → ChildBelow k.parent n h v w → ChildBelow k.parent n h v x → c.upper w ≡ c.upper x
  one_upper {v} p q = elim (apex_or k.parent path v) [
    | inl o ↦ (step p).apex p.some (rw p.over o) ∙ p.over ∙ sym q.over ∙ sym ((step q).apex q.some (rw q.over o))
    | inr o ↦ (step p).along p.some (rw p.over o) ∙ ap c.upper (p.over ∙ sym q.over) ∙ sym ((step q).along q.some (rw q.over o))
  ]

  read_from : {v w : ℕ} → ChildBelow k.parent n h v w → ReadFrom k v w
  read_from p = elim (anc_in_kin k st.tree st.in_use u p.in_use p.below) [
    | inl z ↦ absurd (p.other (sym z))
    | inr z ↦ rw p.over at (in_read u.reads z)
  ]

  pub row_first : {v w : ℕ} → PathChild k.parent path v → ChildBelow k.parent n h v w → c.start v < c.start w
  row_first {v} {w} o p = earlier_starts (rw p.over at (a.below w p.in_use p.below p.other)) (λ z. not_apex (rw z at o) st.apex) p.other
      (sym (rw p.over at ((step p).along p.some (rw p.over o))))

  pub light_in_order : {v w x : ℕ} → ChildBelow k.parent n h v w → ChildBelow k.parent n h v x → w ≢ path v → x ≢ path v → Anc k.next x w → w ≢ x
      → c.start w < c.start x
  light_in_order {w = w} {x} p q i j r d =
      earlier_starts (a.along w x p.in_use p.below p.other (light_after k path (read_from p) i j r) d) p.other q.other (one_upper p q)

  pub path_last_lem : {v w : ℕ} → v < n → Anc k.parent h v → ChildBelow k.parent n h v w → w ≢ path v → path v ≢ none → c.start w < c.start (path v)
  path_last_lem {v} {w} l r p i j =
      let q = child_below st.tree st.in_use l r (g.inside v l j) (g.over v l j) in
      earlier_starts (a.along w (path v) p.in_use p.below p.other (path_after k path (read_from p) i j) i) p.other q.other (one_upper p q)
