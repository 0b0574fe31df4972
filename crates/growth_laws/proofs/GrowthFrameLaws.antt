-- A growth leaves as it was what its frame says.
use Rattle.std.specs.Prelude.{refl, ◌≢◌, ℕ, ◌+◌, ◌<◌}
use Rattle.std.proofs.Common.{ap, ◌∙◌, inl}
use Rattle.laws.specs.Test.{says_false, says_eqb}
use Rattle.tree_laws.specs.Join.{Old}
use Rattle.layer.specs.Layer.{parent}
use Rattle.layer.specs.Numbered.{Numbered}
use Rattle.table.specs.Table.{Table}
use Rattle.join_laws.proofs.ExtendedLaws.{extended_numbered, extended_kept}
use Rattle.join_laws.specs.Frame.{Frame}
use Rattle.join_laws.proofs.FrameLaws.{join_frame}
use Rattle.join_laws.specs.Joined.{SameNode, SamePlace}
use Rattle.join_laws.proofs.JoinedLinks.{last_child}
use Rattle.join_laws.proofs.KeptLaws.{kept_same, kept_trans}
use Rattle.join_laws.specs.Lone.{Kept}
use Rattle.growth_laws.specs.Growth.{Growth, parent_of, opening_of, tree_of}
use Rattle.growth_laws.proofs.ColumnLaws.{after_kept}
use Rattle.growth_laws.specs.Grown.{Grown}
use Rattle.growth_laws.proofs.GrownLaws.{planted, other}
use Rattle.growth_laws.specs.GrowthFrame.{Untouched, Outside, GrowthFrame}

pub untouched_same : {t : Table} {x : ℕ} → Untouched t t x
untouched_same = record { row = kept_same; marks = record { same_label = refl; same_face = refl; same_level = refl }; same_root = refl }

pub untouched_trans : {t d e : Table} {x : ℕ} → Untouched t d x → Untouched d e x → Untouched t e x
untouched_trans a b = record {
  row = kept_trans a.row b.row;
  marks = record {
    same_label = b.marks.same_label ∙ a.marks.same_label;
    same_face = b.marks.same_face ∙ a.marks.same_face;
    same_level = b.marks.same_level ∙ a.marks.same_level;
  };
  same_root = b.same_root ∙ a.same_root;
}

module _ {c : ℕ} {t d : Table} {g : Growth} {h : ℕ} (r : Numbered t.layer) (k : Grown t d g h)
    (rest : (x : ℕ) → t.layer.count < x → x < c → Untouched t d x) where
  num : Numbered k.alone
  num = extended_numbered r k.extended

  -- against the layer in which the new row stands alone
  frame : Frame k.alone d.layer t.layer.count (parent_of g) h
  frame = join_frame num k.step

  old : {x : ℕ} → Outside t d h x → Old k.alone.count t.layer.count x
  old o = other r k o.in_use

  -- and that against the table before
  kept : {x : ℕ} → Outside t d h x → Kept t.layer k.alone x
  kept {x} o = extended_kept r k.extended x o.in_use

  node_same : {x : ℕ} → Outside t d h x → SameNode t.layer d.layer x
  node_same {x} o = let n = frame.node x (old o) in record {
    same_parent = n.same_parent ∙ (kept o).same_parent;
    same_depth = n.same_depth ∙ (kept o).same_depth;
  }

  place_same : {x : ℕ} → Outside t d h x → SamePlace t.layer d.layer x
  place_same {x} o = let p = frame.place x (old o) o.apart in record {
    same_path = p.same_path ∙ (kept o).same_path;
    same_upper = p.same_upper ∙ (kept o).same_upper;
    same_set_size = p.same_set_size ∙ (kept o).same_set_size;
    same_start = p.same_start ∙ (kept o).same_start;
    same_entry = λ i b. p.same_entry i b ∙ (kept o).same_entry i b;
  }

  -- the only row whose next link leads on to the new one is a child of the same parent
  not_last : {x : ℕ} → Outside t d h x → parent d.layer x ≢ parent_of g → x ≢ (k.alone.row (parent_of g)).last
  not_last {x} o n e = n ((frame.node x (old o)).same_parent ∙ last_child num (planted r k) (old o).inside e)

  pub grown_frame : GrowthFrame c t d g h
  grown_frame = record {
    node = λ x o. node_same o;
    place = λ x o. place_same o;
    level = λ x o. k.levels x o.in_use;
    label_kept = λ x o n. k.labels x o.in_use ∙ after_kept t.label (opening_of g) g n;
    face_kept = λ x o n. k.faces x o.in_use ∙ after_kept t.face 0 g n;
    size_kept = λ x o n. frame.size_rest x (old o) o.apart n ∙ (kept o).same_size;
    size_chain = λ x o a. frame.size_above x (old o) o.apart a ∙ ap (λ (s : ℕ). s + 1) (kept o).same_size;
    root_kept = λ x o n. k.roots x o.in_use ∙ (rw (says_false (says_eqb x (tree_of t g)) n) refl);
    next_free_kept = λ x o n. frame.next_free_rest x (old o) o.apart n ∙ (kept o).same_next_free;
    first_kept = λ x o n. (frame.links x (old o)).first_kept (inl n) ∙ (kept o).same_first;
    last_kept = λ x o n. (frame.links x (old o)).last_kept n ∙ (kept o).same_last;
    next_kept = λ x o n. (frame.links x (old o)).next_kept (not_last o n) ∙ (kept o).same_next;
    unused = rest;
  }
