-- Every row of a numbered layer passes the row check (01: "On a table that passes inspection no call gives 4").
use Rattle.std.specs.Prelude.{refl, List, [], ◌∷◌, ◌≢◌, ℕ, ◌<◌}
use Rattle.std.proofs.Common.{inl, inr}
use Rattle.std.proofs.Math.Decide.{ℕ_discrete}
use Rattle.tree_laws.specs.Ancestor.{none}
use Rattle.layer.specs.Layer.{Layer, parent}
use Rattle.tree_laws.specs.ChildLinks.{Chain, end, link, Member}
use Rattle.tree_laws.specs.Chains.{last_from, last_of}
use Rattle.layer.specs.StoredTree.{Child}
use Rattle.layer.specs.Numbered.{Numbered}
use Rattle.layer.specs.Sound.{Link, Sound}
use Rattle.layer_laws.proofs.Numbered.{compressed_tree}
use Rattle.layer_laws.proofs.Bounds.{numbers_small}

-- Links

link_of : {n x : ℕ} → (x ≢ none → x < n) → Link n x
link_of {n} {x} f = elim (ℕ_discrete x none) [ yes e ↦ inl e | no d ↦ inr (f d) ]

chain_link : {t : Layer} {v c : ℕ} {xs : List ℕ} → Chain (λ w. (t.row w).next) c xs → ((w : ℕ) → Member xs w → Child t v w) → Link t.count c
chain_link (end e) h = inl e
chain_link {c = c} (link d p) h = inr (h c (inl refl)).in_use

last_link : {t : Layer} {v : ℕ} (a : ℕ) (xs : List ℕ) → ((w : ℕ) → Member (a ∷ xs) w → Child t v w) → last_from a xs < t.count
last_link a [] h = (h a (inl refl)).in_use
last_link a (x ∷ xs) h = last_link x xs (λ w m. h w (inr m))

last_of_link : {t : Layer} {v : ℕ} (xs : List ℕ) → ((w : ℕ) → Member xs w → Child t v w) → Link t.count (last_of xs)
last_of_link [] h = inl refl
last_of_link (x ∷ xs) h = inr (last_link x xs h)

-- the next link of a row of a list
next_link : {t : Layer} {v c w : ℕ} {xs : List ℕ} → Chain (λ w. (t.row w).next) c xs → ((w : ℕ) → Member xs w → Child t v w) → Member xs w
    → Link t.count (t.row w).next
next_link (end e) h m = absurd m
next_link {t} {v} {c} {w} (link {xs = xs} d p) h (inl e) = rw e (chain_link p (λ w m. h w (inr m)))
next_link (link d p) h (inr m) = next_link p (λ w m. h w (inr m)) m

pub numbered_sound : {t : Layer} → Numbered t → (x : ℕ) → x < t.count → Sound t.count (t.row x)
numbered_sound {t} g x l =
    let b = numbers_small g x l in
    let c = g.one.children x l in
    record {
      parent = link_of (g.one.inside x l);
      first = chain_link c.chain c.over;
      last = rw c.last (last_of_link c.list c.over);
      next = elim (ℕ_discrete (parent t x) none) [
        | yes e ↦ inl (c.alone e)
        | no d ↦
            let k = g.one.children (parent t x) (g.one.inside x l d) in
            next_link k.chain k.over (k.all x record { in_use = l; parent = refl })
      ];
      upper = link_of ((compressed_tree g).inside x l);
      path = link_of (λ d. (g.two.path x l d).in_use);
      size = b.size;
      set_size = b.set_size;
      end = b.end;
      next_free = b.next_free;
    }
