-- The order of starts holds by the links of the renumbered layer alone: renumbering leaves the stored tree and the child links as they are.
use Rattle.std.specs.Prelude.{◌≡◌, refl, ◌≢◌, List, ℕ, ◌<◌}
use Rattle.std.proofs.Common.{sym, ◌∙◌, inl, inr, arith}
use Rattle.tree_laws.specs.Ancestor.{none, Anc, here, there, Forest}
use Rattle.tree_laws.specs.AncestorLaws.{anc_in, anc_copy}
use Rattle.tree_laws.specs.ChildLinks.{Chain, end, link, Member}
use Rattle.tree_laws.specs.Compressed.{PathChild}
use Rattle.layer.specs.Layer.{Layer, parent, depth, path}
use Rattle.layer.specs.Numbered.{Numbered}
use Rattle.join_laws.specs.Renumbered.{Renumbered}
use Rattle.join_laws.specs.StartOrder.{LightChild, ArrivedAfter, StartOrder}
use Rattle.join_laws.proofs.Trees.{own_trees, stored}

-- The next links do not lead out of a chain

chain_first : {next : ℕ → ℕ} {c : ℕ} {xs : List ℕ} → Chain next c xs → c ≢ none → Member xs c
chain_first (end e) i = absurd (i e)
chain_first (link d p) i = inl refl

chain_next : {next : ℕ → ℕ} {c w : ℕ} {xs : List ℕ} → Chain next c xs → Member xs w → next w ≢ none → Member xs (next w)
chain_next (link d p) (inl e) i = rw e (inr (chain_first p (rw e at i)))
chain_next (link d p) (inr z) i = inr (chain_next p z i)
chain_next (end _) z i = elim z [ ]

chain_along : {next : ℕ → ℕ} {c w x : ℕ} {xs : List ℕ} → Chain next c xs → Member xs w → Anc next x w → Member xs x
chain_along p z here = z
chain_along p z (there i a) = chain_along p (chain_next p z i) a

module _ {m d : Layer} {h : ℕ} (n : Numbered d) (k : Renumbered m d h) where
  before : {x : ℕ} → x < d.count → x < m.count
  before l = omega (arith, k.tree.count)

  tree : Forest (parent d) (depth d) d.count
  tree = stored (own_trees n)

  parent_before : {x : ℕ} → x < d.count → parent m x ≡ parent d x
  parent_before {x} l = sym (k.tree.node x (before l)).same_parent

  below : {v : ℕ} → v < d.count → Anc (parent d) h v → Anc (parent m) h v
  below l = anc_copy (λ b q. parent_before (anc_in tree l q))

  path_child : {v : ℕ} → v < d.count → PathChild (parent d) (path d) v → PathChild (parent m) (path d) v
  path_child l o = record { some = rw (parent_before l) o.some; link = rw (parent_before l) o.link }

  light_before : {v w : ℕ} → LightChild d d v w → LightChild m d v w
  light_before p = record { in_use = before p.in_use; over = parent_before p.in_use ∙ p.over; light = p.light }

  arrived : {v w x : ℕ} → v < d.count → LightChild d d v w → ArrivedAfter d w x → ArrivedAfter m w x
  arrived {v} {w} l p a =
      let c = n.one.children v l in
      record {
        other = a.other;
        leads = anc_copy (λ b q. sym (k.tree.links b (before (c.over b (chain_along c.chain (c.all w record { in_use = p.in_use; parent = p.over }) q)).in_use)
            ).same_next) a.leads;
      }

  pub order_after : StartOrder d d h
  order_after = record {
    row_first = λ v w l b o j e. k.order.row_first v w (before l) (below l b) (path_child l o) (before j) (parent_before j ∙ e);
    arrival = λ v w x l b p q a. k.order.arrival v w x (before l) (below l b) (light_before p) (light_before q) (arrived l p a);
    path_last = λ v w l b p. k.order.path_last v w (before l) (below l b) (light_before p);
  }
