-- The stores of a join whose head is found: the row is joined and the head is renumbered, so all that holds of a join holds of them.
use Rattle.std.specs.Prelude.{◌≡◌, ◌≢◌, ℕ, ◌≤◌, ◌<◌}
use Rattle.std.proofs.Common.{ap, sym, ◌∙◌, inl, inr, arith}
use Rattle.std.proofs.Math.Decide.{ℕ_discrete}
use Rattle.tree_laws.specs.Ancestor.{none, here}
use Rattle.tree_laws.specs.AncestorLaws.{row_some}
use Rattle.tree_laws.specs.JoinLaws.{old_or}
use Rattle.span.specs.Constants.{limit}
use Rattle.span.specs.Numbers.{end_of}
use Rattle.layer.specs.Layout.{number_stride, next_free_place}
use Rattle.layer.specs.Row.{number_at}
use Rattle.layer.specs.Layer.{Layer, parent, upper, set_size, start}
use Rattle.layer.specs.Numbered.{Numbered}
use Rattle.join_laws.specs.Joined.{Joined}
use Rattle.join_laws.specs.JoinStep.{JoinStep}
use Rattle.join_laws.proofs.JoinStep.{join_keeps}
use Rattle.join_laws.specs.Lone.{Kept}
use Rattle.join_laws.proofs.KeptLaws.{kept_trans}
use Rattle.join_laws.specs.Head.{Head}
use Rattle.join_laws.specs.Renumbered.{rows}
use Rattle.join_laws.proofs.RenumberedLaws.{head_rows as rows_size}
use Rattle.join_laws.proofs.FrameLaws.{join_head}
use Rattle.layer_laws.proofs.Bounds.{end_small as end_within}
use Rattle.join_laws.proofs.Trees.{own_trees, stored, parent_upper}
use Rattle.renumber.specs.NumberWalk.{Written, Walked}
use Rattle.renumber.specs.Renumber.{renumbered}
use Rattle.renumber_exact.specs.Lent.{Long, layer_in, SameRest}
use Rattle.renumber_exact.specs.Columns.{Holds, past}
use Rattle.renumber_exact.specs.RenumberExact.{head_at, RenumberedExactly, renumbered_exactly}
use Rattle.join_exact.specs.Site.{LeafOf}
use Rattle.join_exact.proofs.Site.{Site}
use Rattle.join_exact.proofs.JoinExact.{parts, between, attached_is, joined, joined_unused}
use Rattle.join_exact.proofs.HeadExact.{head_ready, head_renumberable, head_safe}

end_moved : {a b x y : ℕ} → a ≡ x → b ≡ y → end_of a b ≤ limit → end_of x y ≤ limit
end_moved e o l = rw (e, o) at l

module _ {c k : ℕ} {p : Written} {t : Layer} {z v : ℕ} (s : Site c p k t z v) (w u deep : ℕ) (q : LeafOf t v w u deep) (h : ℕ)
    (head : Head (between s w u deep q) z h) where
  abbrev n : ℕ
  n = t.count

  abbrev middle : Written
  middle = parts s w u deep q

  abbrev m : Layer
  m = between s w u deep q

  in_m : Joined t m z v
  in_m = joined s w u deep q

  long_middle : Long c middle
  long_middle = record {
    most = s.long.most;
    fields = (attached_is s w u deep q).holds.long;
    numbers = s.long.numbers;
    ancestors = s.long.ancestors;
  }

  -- what is stored
  abbrev pub after : Walked
  after = renumbered middle (head_at m h)

  abbrev pub layer_after : Layer
  layer_after = layer_in after.parts n

  exactly : RenumberedExactly c middle n h after
  exactly = renumbered_exactly middle n h long_middle s.room (head_renumberable s.was in_m head) (head_safe s.was in_m head)

  pub after_long : Long c after.parts
  after_long = exactly.long

  pub after_step : JoinStep t layer_after z v h
  after_step = record { between = m; joined = in_m; head = head; renumbered = exactly.renumbered }

  after_numbered : Numbered layer_after
  after_numbered = join_keeps s.was after_step

  -- as many rows as before the renumbering
  pub rows_kept : rows layer_after h ≡ rows m h
  rows_kept = (join_head s.was after_step).number ∙ rows_size (head_ready s.was in_m head) exactly.renumbered

  pub after_given : after.given ≡ rows layer_after h
  after_given = exactly.given ∙ sym rows_kept

  -- what is not the layer's is as it was
  pub after_rest : SameRest p.fields after.parts.fields
  after_rest y k a b = exactly.rest y k a b ∙ (attached_is s w u deep q).rest y k a b

  -- and so is a row that is not in use
  pub after_unused : (before x : ℕ) → n ≤ x → x < c → Kept (layer_in p before) layer_after x
  after_unused before x i l = kept_trans (joined_unused s w u deep q before x i l) (exactly.unused x i l)

  -- What the seat's tests ask

  head_in : h < n
  head_in = (head_ready s.was in_m head).in_use

  -- a head without an upper row is an old row without a parent
  pub head_seated : upper m h ≡ none → (h ≢ z) × (parent t h ≡ none)
  head_seated e =
      let top : parent layer_after h ≡ none = elim (ℕ_discrete (parent layer_after h) none) [
        | yes y ↦ y
        | no d ↦ absurd (parent_upper (own_trees after_numbered) h head_in d (exactly.renumbered.built.upper_head ∙ e))
      ] in
      let was : parent m h ≡ none = sym (exactly.renumbered.tree.node h head_in).same_parent ∙ top in
      elim (old_or z h head_in) [
        | inl o ↦ (o.other, sym (in_m.planted.old h o).same_parent ∙ was)
        | inr y ↦ absurd (row_some (stored (own_trees s.was)) s.over.inside in_m.planted.new.parent_is (sym (ap (parent m) y) ∙ was))
      ]

  -- and its span lies within the limit
  pub head_within : end_of (number_at p.numbers (upper m h) next_free_place) (rows m h) ≤ limit
  head_within =
      let o = exactly.renumbered in
      let held : Holds number_stride c p.numbers = record { most = s.long.most; long = s.long.numbers } in
      let y : set_size layer_after h ≡ rows m h = (join_head s.was after_step).set h head_in here
      ∙ sym (join_head s.was after_step).number ∙ rows_kept in
      let g : start layer_after h ≡ number_at p.numbers (upper m h) next_free_place = elim (ℕ_discrete (upper m h) none) [
        | yes e ↦ o.start_root e ∙ sym (rw e (past held none next_free_place (omega (arith, s.long.most))))
        | no d ↦ o.start_head d
      ] in
      end_moved g y (end_within after_numbered h head_in)
