-- Starts at and below a renumbered head come in 01's order, and it is an order of all compressed siblings: of two, one comes before the other. So the
-- order of their starts is that order and no other.
use Rattle.std.specs.Prelude.{◌≡◌, refl, ◌⊎◌, ◌≢◌, List, ℕ, ◌≤◌, ◌<◌}
use Rattle.std.proofs.Common.{ap, sym, inl, inr, arith}
use Rattle.std.proofs.Math.Decide.{ℕ_discrete}
use Rattle.tree_laws.specs.Ancestor.{none, Anc, here, there, Forest}
use Rattle.tree_laws.specs.AncestorLaws.{trans, cases, linear, parent_over, climb, row_some}
use Rattle.tree_laws.specs.ChildLinks.{Chain, end, link, Member}
use Rattle.tree_laws.specs.Compressed.{PathChild}
use Rattle.tree_laws.specs.CompressedLaws.{apex_or}
use Rattle.layer.specs.Layer.{Layer, parent, depth, upper, path, start}
use Rattle.layer.specs.Numbered.{Numbered}
use Rattle.join_laws.specs.StartOrder.{StartOrder}
use Rattle.join_laws.specs.PathOrder.{BelongsTo, itself, light, Before, row, arrival, down}
use Rattle.join_laws.specs.Trees.{OwnTrees}
use Rattle.join_laws.proofs.Trees.{own_trees, stored, upper_step}

-- Two rows of a chain

chain_some : {next : ℕ → ℕ} {c : ℕ} {xs : List ℕ} (x : ℕ) → Chain next c xs → Member xs x → c ≢ none
chain_some x (end e) m = absurd m
chain_some x (link d p) m = d

chain_reach : {next : ℕ → ℕ} {c : ℕ} {xs : List ℕ} (x : ℕ) → Chain next c xs → Member xs x → Anc next x c
chain_reach x (end e) m = absurd m
chain_reach x (link d p) (inl e) = rw e here
chain_reach x (link d p) (inr m) = there (chain_some x p m) (chain_reach x p m)

-- the links lead from one to the other
chain_or : {next : ℕ → ℕ} {c : ℕ} {xs : List ℕ} (w x : ℕ) → Chain next c xs → Member xs w → Member xs x → Anc next x w ⊎ Anc next w x
chain_or w x (end e) m q = absurd m
chain_or w x (link d p) (inl e) q = inl (rw e (chain_reach x (link d p) q))
chain_or w x (link d p) (inr m) (inl e) = inr (rw e (chain_reach w (link d p) (inr m)))
chain_or w x (link d p) (inr m) (inr q) = chain_or w x p m q

module _ {d : Layer} (n : Numbered d) where
  trees : OwnTrees d
  trees = own_trees n

  tree : Forest (parent d) (depth d) d.count
  tree = stored trees

  -- Down the path

  module _ {h : ℕ} (k : StartOrder d d h) where
    next_over : {v : ℕ} → v < d.count → path d v ≢ none → parent d (path d v) ≢ none
    next_over {v} l i = row_some tree l (trees.link v l i)

    next_child : {v : ℕ} → v < d.count → path d v ≢ none → PathChild (parent d) (path d) (path d v)
    next_child {v} l i = record { some = next_over l i; link = ap (path d) (trees.link v l i) }

    next_below : {v : ℕ} → v < d.count → Anc (parent d) h v → path d v ≢ none → Anc (parent d) h (path d v)
    next_below {v} l b i = trans b (parent_over (next_over l i) (trees.link v l i))

    before_next : {v x : ℕ} → v < d.count → Anc (parent d) h v → path d v ≢ none → BelongsTo d v x → start d x < start d (path d v)
    before_next {v} l b i (itself o) = k.row_first v (path d v) l b o (trees.in_use v l i) (trees.link v l i)
    before_next {v} {x} l b i (light p) = k.path_last v x l b p i

    -- all from the row v on
    row_before : {v z y : ℕ} → v < d.count → Anc (parent d) h v → PathChild (parent d) (path d) v → Anc (path d) z v → BelongsTo d z y → start d v ≤ start d y
    row_before l b o here (itself p) = omega arith
    row_before {v} {y = y} l b o here (light p) = omega (arith, k.row_first v y l b o p.in_use p.over)
    row_before {v} l b o (there i a) y =
        omega (arith, before_next l b i (itself o), row_before (trees.in_use v l i) (next_below l b i) (next_child l i) a y)

    down_path : {v z x y : ℕ} → v < d.count → Anc (parent d) h v → Anc (path d) z v → v ≢ z → BelongsTo d v x → BelongsTo d z y → start d x < start d y
    down_path l b here i x y = absurd (i refl)
    down_path {v} l b (there j a) i x y =
        omega (arith, before_next l b j x, row_before (trees.in_use v l j) (next_below l b j) (next_child l j) a y)

    -- the path row that a row below the head belongs to lies at or below the head
    row_below : {v x : ℕ} → BelongsTo d v x → x < d.count → Anc (parent d) h x → x ≢ h → (v < d.count) × Anc (parent d) h v
    row_below (itself o) l b i = (l, b)
    row_below {x = x} (light p) l b i = elim (cases b) [
      | inl z ↦ absurd (i (sym z))
      | inr z ↦ (rw p.over at (tree.inside x l z.0), rw p.over at z.1)
    ]

    pub before_starts : {x y : ℕ} → x < d.count → Anc (parent d) h x → x ≢ h → Before d x y → start d x < start d y
    before_starts l b i (row {v = v} {w} o p) = k.row_first v w l b o p.in_use p.over
    before_starts l b i (arrival {v = v} {w} {x} p q a) = let r = row_below (light p) l b i in k.arrival v w x r.0 r.1 p q a
    before_starts l b i (down a j x y) = let r = row_below x l b i in down_path r.0 r.1 a j x y

  -- Of two compressed siblings one comes before the other

  on_path : (x : ℕ) → x < d.count → PathChild (parent d) (path d) x → Anc (path d) x (upper d x)
  on_path = climb tree (λ x. PathChild (parent d) (path d) x → Anc (path d) x (upper d x)) (λ x l e o. absurd (o.some e)) (λ x l i above o.
      let over : Anc (path d) x (parent d x) = parent_over (row_some tree l o.link) o.link in
      elim (apex_or (parent d) (path d) (parent d x)) [
        | inl a ↦ rw ((upper_step trees x l).apex i a) over
        | inr q ↦ rw ((upper_step trees x l).along i q) (trans over (above q))
      ])

  -- the path row that x belongs to, on the path of the compressed parent of x
  record PathRow (x : ℕ) : Type 0 where
    row : ℕ
    belongs : BelongsTo d row x
    on : Anc (path d) row (upper d x)

  path_row : (x : ℕ) → x < d.count → parent d x ≢ none → PathRow x
  path_row x l i = elim (apex_or (parent d) (path d) x) [
    | inl a ↦ record {
      row = parent d x;
      belongs = light record { in_use = l; over = refl; light = λ e. a i (sym e) };
      on = elim (apex_or (parent d) (path d) (parent d x)) [
        | inl b ↦ rw ((upper_step trees x l).apex i b) here
        | inr q ↦ rw ((upper_step trees x l).along i q) (on_path (parent d x) (tree.inside x l i) q)
      ];
    }
    | inr o ↦ record { row = x; belongs = itself o; on = on_path x l o }
  ]

  one_row : {v x y : ℕ} → v < d.count → BelongsTo d v x → BelongsTo d v y → x ≢ y → Before d x y ⊎ Before d y x
  one_row l (itself o) (itself _) i = absurd (i refl)
  one_row l (itself o) (light q) i = inl (row o q)
  one_row l (light p) (itself o) i = inr (row o p)
  one_row {v} {x} {y} l (light p) (light q) i =
      let c = n.one.children v l in
      elim (chain_or x y c.chain (c.all x record { in_use = p.in_use; parent = p.over }) (c.all y record { in_use = q.in_use; parent = q.over })) [
        | inl a ↦ inl (arrival p q record { other = i; leads = a })
        | inr a ↦ inr (arrival q p record { other = λ e. i (sym e); leads = a })
      ]

  pub before_or : (x y : ℕ) → x < d.count → y < d.count → parent d x ≢ none → parent d y ≢ none → upper d x ≡ upper d y → x ≢ y
      → Before d x y ⊎ Before d y x
  before_or x y l j a b e i = go (path_row x l a) (path_row y j b)
    where
      row_in : {v : ℕ} → BelongsTo d v y → v < d.count
      row_in (itself o) = j
      row_in (light p) = rw p.over at (tree.inside y j b)

      go : PathRow x → PathRow y → Before d x y ⊎ Before d y x
      go r s = elim (ℕ_discrete r.row s.row) [
        | yes z ↦ one_row (row_in s.belongs) (rw z at r.belongs) s.belongs i
        | no z ↦ elim (linear r.on (rw (← e) at s.on)) [
          | inl o ↦ inr (down o (λ w. z (sym w)) s.belongs r.belongs)
          | inr o ↦ inl (down o z r.belongs s.belongs)
        ]
      ]

  -- so starts of compressed siblings at and below the head stand in 01's order
  pub starts_before : {h : ℕ} → StartOrder d d h → (x y : ℕ) → x < d.count → y < d.count → Anc (parent d) h x → Anc (parent d) h y → x ≢ h → y ≢ h
      → upper d x ≡ upper d y → start d x < start d y → Before d x y
  starts_before {h} k x y l j a b i m e o = elim (before_or x y l j (some a i) (some b m) e other) [
    | inl z ↦ z
    | inr z ↦ absurd (turned (before_starts k j b m z))
  ]
    where
      some : {z : ℕ} → Anc (parent d) h z → z ≢ h → parent d z ≢ none
      some r q = elim (cases r) [ inl z ↦ absurd (q (sym z)) | inr z ↦ z.0 ]

      other : x ≢ y
      other z = omega (arith, o, ap (start d) z)

      turned : ¬ (start d y < start d x)
      turned z = omega (arith, o)
