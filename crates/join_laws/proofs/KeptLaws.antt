-- A row that is the same in two layers.
use Rattle.std.specs.Prelude.{refl, ℕ}
use Rattle.std.proofs.Common.{◌∙◌}
use Rattle.layer.specs.Layer.{Layer}
use Rattle.join_laws.specs.Lone.{Kept}

pub kept_same : {t : Layer} {y : ℕ} → Kept t t y
kept_same = record {
  same_parent = refl;
  same_depth = refl;
  same_first = refl;
  same_last = refl;
  same_next = refl;
  same_upper = refl;
  same_path = refl;
  same_size = refl;
  same_set_size = refl;
  same_start = refl;
  same_next_free = refl;
  same_entry = λ i l. refl;
}

pub kept_trans : {t d e : Layer} {y : ℕ} → Kept t d y → Kept d e y → Kept t e y
kept_trans a b = record {
  same_parent = b.same_parent ∙ a.same_parent;
  same_depth = b.same_depth ∙ a.same_depth;
  same_first = b.same_first ∙ a.same_first;
  same_last = b.same_last ∙ a.same_last;
  same_next = b.same_next ∙ a.same_next;
  same_upper = b.same_upper ∙ a.same_upper;
  same_path = b.same_path ∙ a.same_path;
  same_size = b.same_size ∙ a.same_size;
  same_set_size = b.same_set_size ∙ a.same_set_size;
  same_start = b.same_start ∙ a.same_start;
  same_next_free = b.same_next_free ∙ a.same_next_free;
  same_entry = λ i l. b.same_entry i l ∙ a.same_entry i l;
}
