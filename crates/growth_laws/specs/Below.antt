-- Rows that joined trees as leaves, one after another: a new leaf, or the rows of a linked tree. The trees above them keep their lines, so rule 1 holds
-- again, and the plain parent of a joined row is its stored one.
use Rattle.std.specs.Prelude.{◌≡◌, ◌⊎◌, ◌≢◌, ℕ, ◌≤◌, ◌<◌, pos, ◌+ℤ◌}
use Rattle.std.proofs.Common.{ap, sym, ◌∙◌, inl, inr, arith}
use Rattle.tree_laws.specs.Ancestor.{none, Forest}
use Rattle.tree_laws.specs.AncestorLaws.{anc_in}
use Rattle.tree_laws.specs.Reroot.{kept, plain_parent}
use Rattle.tree_laws.specs.RerootLaws.{plain_is}
use Rattle.tree_laws.specs.Top.{top_first}
use Rattle.tree_laws.specs.Older.{Older, older_anc, anc_to, anc_from, first_to, first_from, top_same, plain_same_lem}
use Rattle.layer.specs.Layer.{parent, depth}
use Rattle.layer.specs.StoredTree.{first}
use Rattle.layer.specs.Numbered.{Numbered}
use Rattle.table.specs.Capacity.{node_limit}
use Rattle.table.specs.Table.{Table}
use Rattle.table.specs.PlainTree.{root, plain}
use Rattle.table.specs.Line.{Rooted, OnLine, Level}
use Rattle.table.specs.Rules.{label_limit, face_limit, Bounded, Recorded, Rules}
use Rattle.table.proofs.Rules.{numbered}
use Rattle.join_laws.proofs.Trees.{own_trees, stored, trees_within}

-- row x joined as a leaf, one level below its parent
pub record JoinedLeaf (d : Table) (x : ℕ) : Type 0 where
  pub some : parent d.layer x ≢ none
  pub below : d.level x ≡ d.level (parent d.layer x) +ℤ pos 1
  pub labelled : d.label x ≤ label_limit
  pub faced : d.face x ≤ face_limit

-- the rows that P picks are those of t, whole trees with their lines, and all others of d joined as leaves
pub record Grows (t d : Table) (P : ℕ → Type 0) : Type 0 where
  pub more : t.layer.count ≤ d.layer.count
  pub older : Older (parent t.layer) (parent d.layer) t.layer.count P
  pub either : (x : ℕ) → x < d.layer.count → P x ⊎ ((P x → ⊥) × JoinedLeaf d x)
  pub same_level : (x : ℕ) → P x → d.level x ≡ t.level x
  pub same_label : (x : ℕ) → P x → d.label x ≡ t.label x
  pub same_face : (x : ℕ) → P x → d.face x ≡ t.face x
  pub same_root : (f : ℕ) → P f → parent t.layer f ≡ none → d.root f ≡ t.root f
  pub root_kept : (f : ℕ) → P f → parent t.layer f ≡ none → P (t.root f)

module _ {capacity : ℕ} {t d : Table} {P : ℕ → Type 0} (r : Rules capacity t) (small : capacity ≤ node_limit) (s : Numbered d.layer) (k : Grows t d P) where
  was : Forest (parent t.layer) (depth t.layer) t.layer.count
  was = stored (own_trees (numbered r small))

  now : Forest (parent d.layer) (depth d.layer) d.layer.count
  now = stored (own_trees s)

  old : {x : ℕ} → P x → x < t.layer.count
  old {x} p = k.older.inside x p

  -- the first row of a tree of d is one of t, with the same root
  first_old : {f : ℕ} → f < d.layer.count → parent d.layer f ≡ none → P f
  first_old {f} l e = elim (k.either f l) [ inl p ↦ p | inr q ↦ absurd (q.1.some e) ]

  first_was : {f : ℕ} → P f → parent d.layer f ≡ none → parent t.layer f ≡ none
  first_was {f} p e = sym (k.older.same f p) ∙ e

  root_kept : {f : ℕ} → P f → parent d.layer f ≡ none → P (d.root f)
  root_kept {f} p e = let z = first_was p e in rw (k.same_root f p z) (k.root_kept f p z)

  rooted : (f : ℕ) → f < d.layer.count → parent d.layer f ≡ none → Rooted d f
  rooted f l e =
      let p = first_old l e in
      let z = first_was p e in
      let q = r.one.lines.root f (old p) z in
      record {
        in_use = rw (k.same_root f p z) (omega (arith, q.in_use, k.more));
        over = rw (k.same_root f p z) (anc_to was now k.more k.older (k.root_kept f p z) q.over);
      }

  -- Lines

  line_to : {x : ℕ} → P x → OnLine t x → OnLine d x
  line_to {x} p o =
      let q = older_anc was now k.more k.older p o.is.over in
      record {
        first = o.first;
        is = first_to was now k.more k.older p o.is;
        over = rw (k.same_root o.first q o.is.top) (anc_to was now k.more k.older (k.root_kept o.first q o.is.top) o.over);
      }

  line_from : {x : ℕ} → P x → OnLine d x → OnLine t x
  line_from {x} p o =
      let i = first_from was now k.more k.older p o.is in
      let q = older_anc was now k.more k.older p i.over in
      record {
        first = o.first;
        is = i;
        over = anc_from was now k.more k.older (k.root_kept o.first q i.top) (rw (k.same_root o.first q i.top) at o.over);
      }

  -- a row that joined is on no line
  off_line_lem : {x : ℕ} → x < d.layer.count → (P x → ⊥) → OnLine d x → ⊥
  off_line_lem {x} l n o =
      let p = first_old (anc_in now l o.is.over) o.is.top in
      let q = root_kept p o.is.top in
      n (older_anc was now k.more k.older q (anc_from was now k.more k.older q o.over))

  levels : (x : ℕ) → x < d.layer.count → Level d x
  levels x l = elim (k.either x l) [
    | inr q ↦ record {
      first = λ e. absurd (q.1.some e);
      on_line = λ _ o. absurd (off_line_lem l q.0 o);
      off_line = λ _ _. q.1.below;
    }
    | inl p ↦
        let v = r.one.lines.level x (old p) in
        let up : parent d.layer x ≡ parent t.layer x = k.older.same x p in
        record {
          first = λ e. k.same_level x p ∙ v.first (sym up ∙ e);
          on_line = λ h o. let i : parent t.layer x ≢ none = λ z. h (up ∙ z) in
              rw (k.same_level x p, up, k.same_level (parent t.layer x) (k.older.above x p i)) (v.on_line i (line_from p o));
          off_line = λ h o. let i : parent t.layer x ≢ none = λ z. h (up ∙ z) in
              rw (k.same_level x p, up, k.same_level (parent t.layer x) (k.older.above x p i)) (v.off_line i (λ q. o (line_to p q)));
        }
  ]

  -- a column of labels or faces
  bounded : {was' now' : ℕ → ℕ} {limit : ℕ} → Bounded t was' limit → ((x : ℕ) → P x → now' x ≡ was' x) → ((x : ℕ) → JoinedLeaf d x → now' x ≤ limit) → Bounded d now' limit
  bounded b same joined = record {
    most = λ x l. elim (k.either x l) [ inl p ↦ rw (same x p) (b.most x (old p)) | inr q ↦ joined x q.1 ];
    root = λ f l e.
        let p = first_old l e in
        let z = first_was p e in
        rw (k.same_root f p z) (same (t.root f) (k.root_kept f p z) ∙ b.root f (old p) z);
  }

  pub grows_recorded : d.layer.count ≤ capacity → Recorded capacity d
  grows_recorded fits = record {
    trees = trees_within s fits;
    lines = record { root = rooted; level = levels };
    labels = bounded r.one.labels k.same_label (λ x q. q.labelled);
    faces = bounded r.one.faces k.same_face (λ x q. q.faced);
  }

  -- Plain parents

  pub plain_old : (x : ℕ) → P x → plain d x ≡ plain t x
  plain_old x p =
      let f = top_first was x (old p) in
      let q = older_anc was now k.more k.older p f.over in
      let e : root d x ≡ root t x = ap d.root (top_same was now k.more k.older p) ∙ k.same_root (first t.layer x) q f.top in
      ap (λ (y : ℕ). plain_parent (parent d.layer) (depth d.layer) y x) e ∙ plain_same_lem was now k.more k.older (k.root_kept (first t.layer x) q f.top) p

  pub plain_joined : (x : ℕ) → x < d.layer.count → (P x → ⊥) → plain d x ≡ parent d.layer x
  plain_joined x l n =
      let f = top_first now x l in
      let p = first_old (anc_in now l f.over) f.top in
      let q = root_kept p f.top in
      plain_is now (omega (arith, old q, k.more)) l (kept (λ a. n (older_anc was now k.more k.older q (anc_from was now k.more k.older q a))))
