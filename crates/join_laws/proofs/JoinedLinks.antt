-- Child links after a join (02, "child links go by joining"): the joined row is the last child of its parent.
use Rattle.std.specs.Prelude.{◌≡◌, refl, ◌⊎◌, ◌≢◌, List, [], ◌∷◌, ◌++◌, ℕ, ◌<◌}
use Rattle.std.proofs.Common.{ap, sym, ◌∙◌, inl, inr, arith}
use Rattle.std.proofs.Math.Decide.{ℕ_discrete}
use Rattle.tree_laws.specs.Ancestor.{none}
use Rattle.tree_laws.specs.AncestorLaws.{row_some}
use Rattle.tree_laws.specs.ChildLinks.{Chain, end, link, Member}
use Rattle.tree_laws.specs.Chains.{last_from, last_of, chain_once, chain_copy, chain_append}
use Rattle.tree_laws.specs.Join.{Old}
use Rattle.tree_laws.specs.JoinLaws.{old_or}
use Rattle.layer.specs.Layer.{Layer, parent}
use Rattle.layer.specs.StoredTree.{Child, ChildLinks}
use Rattle.layer.specs.Numbered.{Numbered}
use Rattle.join_laws.specs.Joined.{Planted}
use Rattle.join_laws.proofs.Trees.{own_trees, stored}

-- lists with one row more at the end
member_more : (xs : List ℕ) (z w : ℕ) → Member xs w → Member (xs ++ (z ∷ [])) w
member_more [] z w m = absurd m
member_more (x ∷ xs) z w (inl e) = inl e
member_more (x ∷ xs) z w (inr m) = inr (member_more xs z w m)

member_last : (xs : List ℕ) (z w : ℕ) → w ≡ z → Member (xs ++ (z ∷ [])) w
member_last [] z w e = inl e
member_last (x ∷ xs) z w e = inr (member_last xs z w e)

more_member : (xs : List ℕ) (z w : ℕ) → Member (xs ++ (z ∷ [])) w → Member xs w ⊎ (w ≡ z)
more_member [] z w (inl e) = inr e
more_member [] z w (inr m) = absurd m
more_member (x ∷ xs) z w (inl e) = inl (inl e)
more_member (x ∷ xs) z w (inr m) = elim (more_member xs z w m) [ inl i ↦ inl (inr i) | inr e ↦ inr e ]

last_more : (a : ℕ) (xs : List ℕ) (z : ℕ) → last_from a (xs ++ (z ∷ [])) ≡ z
last_more a [] z = refl
last_more a (x ∷ xs) z = last_more x xs z

last_member : (a : ℕ) (xs : List ℕ) → Member (a ∷ xs) (last_from a xs)
last_member a [] = inl refl
last_member a (x ∷ xs) = inr (last_member x xs)

module _ {t m : Layer} {z v : ℕ} (r : Numbered t) (k : Planted t m z v) where
  was : {x : ℕ} → x < m.count → x < t.count
  was i = omega (arith, k.count)

  some : {x y : ℕ} → y < t.count → x ≡ y → x ≢ none
  some i e = row_some (stored (own_trees r)) i e

  -- a child was an old row
  child_old : {u w : ℕ} → u < t.count → Child t u w → Old t.count z w
  child_old i c = record { inside = c.in_use; other = λ e. some i c.parent (ap (parent t) e ∙ k.alone.top) }

  child_kept : {u w : ℕ} → u < t.count → Child t u w → Child m u w
  child_kept i c = record { in_use = omega (arith, c.in_use, k.count); parent = (k.old _ (child_old i c)).same_parent ∙ c.parent }

  child_was : {u w : ℕ} → Child m u w → Child t u w ⊎ ((w ≡ z) × (v ≡ u))
  child_was {u} {w} c = elim (old_or z w (was c.in_use)) [
    | inl o ↦ inl record { in_use = o.inside; parent = sym (k.old w o).same_parent ∙ c.parent }
    | inr e ↦ inr (e, sym k.new.parent_is ∙ ap (parent m) (sym e) ∙ c.parent)
  ]

  of_v : ChildLinks t v
  of_v = r.one.children v k.over.inside

  -- the last child of v, if any, is its child
  pub last_child : {w : ℕ} → w < t.count → w ≡ (t.row v).last → parent t w ≡ v
  last_child {w} i e = go of_v.list of_v.over (e ∙ of_v.last)
    where
      go : (xs : List ℕ) → ((w : ℕ) → Member xs w → Child t v w) → w ≡ last_of xs → parent t w ≡ v
      go [] h y = absurd (some i refl y)
      go (x ∷ xs) h y = (h w (rw y (last_member x xs))).parent

  -- the next link of a row that is no child of v, or not the last one, stays
  next_other : {u w : ℕ} → u < t.count → u ≢ v → Child t u w → (m.row w).next ≡ (t.row w).next
  next_other {u} {w} i d c = (k.links w (child_old i c)).next_kept (λ e. d (sym c.parent ∙ last_child c.in_use e))

  links_other : (x : ℕ) → Old t.count z x → x ≢ v → ChildLinks m x
  links_other x o d =
      let c = r.one.children x o.inside in
      record {
        list = c.list;
        chain = rw ((k.links x o).first_kept (inl d)) (chain_copy (λ w i. next_other o.inside d (c.over w i)) c.chain);
        over = λ w i. child_kept o.inside (c.over w i);
        all = λ w i. elim (child_was i) [ inl q ↦ c.all w q | inr e ↦ absurd (d (sym e.1)) ];
        last = (k.links x o).last_kept d ∙ c.last;
        alone = λ e.
            (k.links x o).next_kept (λ y. some k.over.inside (last_child o.inside y) (sym (k.old x o).same_parent ∙ e))
            ∙ c.alone (sym (k.old x o).same_parent ∙ e);
      }

  z_some : z ≢ none
  z_some = some k.alone.inside refl

  chain_first : {c : ℕ} {xs : List ℕ} → Chain (λ w. (t.row w).next) c xs → ((c ≡ none) × (xs ≡ [])) ⊎ (c ≢ none)
  chain_first (end e) = inl (e, refl)
  chain_first (link d p) = inr d

  links_v : ChildLinks m v
  links_v = elim (chain_first of_v.chain) [
    | inl e ↦ record {
      list = z ∷ [];
      chain = rw ((k.links v k.over).first_given refl e.0) (link {xs = []} z_some (end k.new.next_none));
      over = λ w i. elim i [ inl y ↦ rw y record { in_use = omega (arith, k.count, k.alone.inside); parent = k.new.parent_is } | inr y ↦ absurd y ];
      all = λ w i. elim (child_was i) [ inl q ↦ absurd (rw e.1 at (of_v.all w q)) | inr y ↦ inl y.0 ];
      last = (k.links v k.over).last_given refl;
      alone = alone;
    }
    | inr d ↦ record {
      list = of_v.list ++ (z ∷ []);
      chain = rw ((k.links v k.over).first_kept (inr d)) (chain_append z of_v.chain (chain_once of_v.chain) d z_some k.new.next_none
          (after d) (λ w i n. (k.links w (child_old k.over.inside (of_v.over w i))).next_kept (λ y. n (y ∙ of_v.last))));
      over = λ w i. elim (more_member of_v.list z w i) [
        | inl q ↦ child_kept k.over.inside (of_v.over w q)
        | inr y ↦ rw y record { in_use = omega (arith, k.count, k.alone.inside); parent = k.new.parent_is }
      ];
      all = λ w i. elim (child_was i) [ inl q ↦ member_more of_v.list z w (of_v.all w q) | inr y ↦ member_last of_v.list z w y.0 ];
      last = (k.links v k.over).last_given refl ∙ sym (last_more none of_v.list z);
      alone = alone;
    }
  ]
    where
      alone : parent m v ≡ none → (m.row v).next ≡ none
      alone e =
          (k.links v k.over).next_kept (λ y. some k.over.inside (last_child k.over.inside y) (sym (k.old v k.over).same_parent ∙ e))
          ∙ of_v.alone (sym (k.old v k.over).same_parent ∙ e)

      after : (t.row v).first ≢ none → (m.row (last_of of_v.list)).next ≡ z
      after d = go of_v.list of_v.chain of_v.over of_v.last
        where
          go : (xs : List ℕ) → Chain (λ w. (t.row w).next) (t.row v).first xs → ((w : ℕ) → Member xs w → Child t v w) → (t.row v).last ≡ last_of xs
              → (m.row (last_of xs)).next ≡ z
          go [] (end e) h y = absurd (d e)
          go (x ∷ xs) c h y = (k.links (last_from x xs) (child_old k.over.inside (h _ (last_member x xs)))).next_given (sym y)

  links_z : ChildLinks m z
  links_z = record {
    list = [];
    chain = end k.new.first_none;
    over = λ w i. absurd i;
    all = λ w i. elim (child_was i) [
      | inl q ↦ k.alone.bare w q.in_use q.parent
      | inr y ↦ k.over.other y.1
    ];
    last = k.new.last_none;
    alone = λ e. k.new.next_none;
  }

  pub planted_links : (x : ℕ) → x < m.count → ChildLinks m x
  planted_links x i = elim (old_or z x (was i)) [
    | inr e ↦ rw e links_z
    | inl o ↦ elim (ℕ_discrete x v) [ yes e ↦ rw e links_v | no d ↦ links_other x o d ]
  ]
