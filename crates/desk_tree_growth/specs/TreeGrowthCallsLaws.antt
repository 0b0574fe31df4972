-- The growths of a byte tree, by whether the slices have their lengths, from what the call of the engine and the reply left.
use Rattle.std.specs.Prelude.{◌≡◌, Bool, ◌≢◌, List, ℕ, length}
use Rattle.std.proofs.Math.Path.{ap}
use Rattle.std.proofs.Common.{subst, ◌∙◌}
use Rattle.table.specs.declared.state.State.{State}
use Rattle.table.specs.Parts.{Parts}
use Rattle.table.specs.Scratch.{least_scratch}
use Rattle.growth.specs.Outcome.{Outcome as GrowthOutcome}
use Rattle.growth.specs.Growth.{Result as Growth, add_leaf, add_root}
use Rattle.growth.specs.Growth as growth
use Rattle.bytes_tree.specs.Tree.{tree_bytes, state_in, parts_in, tally_in}
use Rattle.replies.specs.Reply.{reply, misfit}
use Rattle.replies.specs.ReplyLaws.{tree_misfit, out_misfit, both_fit}
use Rattle.byte_replies.specs.ByteReply.{grown_bytes}
use Rattle.desk_tree_growth.specs.TreeGrowthCalls.{outcome, tree_after, GrownHeld, GrowthHeld, after_growth, on_lengths, leaf_tree, root_tree}

-- t are the parts that are written back, here and below, `left` those that the call left
module _ (b after : List ℕ) (u t : Parts) (v w : List ℕ) (s : State) (g : GrowthOutcome) (i : u ≡ parts_in b) (l : v ≡ tally_in b) (j : s ≡ state_in b)
    (h : GrownHeld after t w g) where
  pub leaf_held : {left : Parts} (parent label face : ℕ) → growth.growth_result left w g ≡ add_leaf u v least_scratch s parent label face → t ≡ left → GrowthHeld after (add_leaf (parts_in b) (tally_in b) least_scratch (state_in b) parent label face)
  leaf_held parent label face q back =
      let z : growth.growth_result t w g ≡ add_leaf (parts_in b) (tally_in b) least_scratch (state_in b) parent label face = ap (λ x. growth.growth_result x w g) back ∙ q ∙ rw (i, l, j) in
      subst (λ (o : Growth). GrowthHeld after o) z h

  pub root_held : {left : Parts} (named : Bool) (opening : ℕ) → growth.growth_result left w g ≡ add_root u v least_scratch s named opening → t ≡ left
      → GrowthHeld after (add_root (parts_in b) (tally_in b) least_scratch (state_in b) named opening)
  root_held named opening q back =
      let z : growth.growth_result t w g ≡ add_root (parts_in b) (tally_in b) least_scratch (state_in b) named opening = ap (λ x. growth.growth_result x w g) back ∙ q ∙ rw (i, l, j) in
      subst (λ (o : Growth). GrowthHeld after o) z h

module _ (b out : List ℕ) {r : ℕ} where
  grown_tree_misfit : (o : Growth) → r ≡ 3 → length b ≢ tree_bytes → outcome b (reply r out) ≡ on_lengths b out o
  grown_tree_misfit o h e = rw h (tree_misfit tree_bytes b out 6 (after_growth b out o) (outcome b (misfit out)) e)

  grown_out_misfit : (o : Growth) → r ≡ 3 → length b ≡ tree_bytes → length out ≢ 6 → outcome b (reply r out) ≡ on_lengths b out o
  grown_out_misfit o h e f = rw h (out_misfit tree_bytes b out 6 (after_growth b out o) (outcome b (misfit out)) e f)

  pub leaf_tree_misfit : (parent label face : ℕ) → r ≡ 3 → length b ≢ tree_bytes → outcome b (reply r out) ≡ leaf_tree b out parent label face
  unfolding leaf_tree
  leaf_tree_misfit parent label face = grown_tree_misfit (add_leaf (parts_in b) (tally_in b) least_scratch (state_in b) parent label face)

  pub leaf_out_misfit : (parent label face : ℕ) → r ≡ 3 → length b ≡ tree_bytes → length out ≢ 6 → outcome b (reply r out) ≡ leaf_tree b out parent label face
  unfolding leaf_tree
  leaf_out_misfit parent label face = grown_out_misfit (add_leaf (parts_in b) (tally_in b) least_scratch (state_in b) parent label face)

  pub root_tree_misfit : (named : Bool) (opening : ℕ) → r ≡ 3 → length b ≢ tree_bytes → outcome b (reply r out) ≡ root_tree b out named opening
  unfolding root_tree
  root_tree_misfit named opening = grown_tree_misfit (add_root (parts_in b) (tally_in b) least_scratch (state_in b) named opening)

  pub root_out_misfit : (named : Bool) (opening : ℕ) → r ≡ 3 → length b ≡ tree_bytes → length out ≢ 6 → outcome b (reply r out) ≡ root_tree b out named opening
  unfolding root_tree
  root_out_misfit named opening = grown_out_misfit (add_root (parts_in b) (tally_in b) least_scratch (state_in b) named opening)

  module _ (after out_after : List ℕ) (u t : Parts) (v w : List ℕ) (s : State) (g : GrowthOutcome) (e : length b ≡ tree_bytes) (f : length out ≡ 6) (i : u ≡ parts_in b) (l : v ≡ tally_in b)
      (j : s ≡ state_in b) (k : after ≡ tree_after b t w g) (h : reply r out_after ≡ grown_bytes out g) where
    kept : outcome after (reply r out_after) ≡ on_lengths b out (growth.growth_result t w g)
    kept = rw (k, h) (both_fit tree_bytes b out 6 (outcome (tree_after b t w g) (grown_bytes out g)) (outcome b (misfit out)) e f)

    pub leaf_kept : {left : Parts} (parent label face : ℕ) → growth.growth_result left w g ≡ add_leaf u v least_scratch s parent label face → t ≡ left → outcome after (reply r out_after) ≡ leaf_tree b out parent label face
    unfolding leaf_tree
    leaf_kept parent label face q back = let z : growth.growth_result t w g ≡ add_leaf (parts_in b) (tally_in b) least_scratch (state_in b) parent label face = ap (λ x. growth.growth_result x w g) back ∙ q ∙ rw (i, l, j) in kept ∙ ap (on_lengths b out) z

    pub root_kept : {left : Parts} (named : Bool) (opening : ℕ) → growth.growth_result left w g ≡ add_root u v least_scratch s named opening → t ≡ left
        → outcome after (reply r out_after) ≡ root_tree b out named opening
    unfolding root_tree
    root_kept named opening q back =
        let z : growth.growth_result t w g ≡ add_root (parts_in b) (tally_in b) least_scratch (state_in b) named opening = ap (λ x. growth.growth_result x w g) back ∙ q ∙ rw (i, l, j) in
        kept ∙ ap (on_lengths b out) z
