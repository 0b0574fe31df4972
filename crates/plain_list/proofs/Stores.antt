-- What is proved of `Stores`.
use Rattle.std.specs.Prelude.{◌≡◌, refl, [], ◌∷◌, ◌++◌, ◌≢◌, ℕ, suc, ◌<◌, length}
use Rattle.std.proofs.Common.{sym, ap, ◌∙◌, arith}
use Rattle.std.proofs.Math.Decide.{ℕ_discrete}
use Rattle.std.proofs.Math.ListN.{get_or-append}
use Rattle.std.proofs.lemmas.List.{get_or_at}
use Rattle.laws.specs.Test.{Says, says_eq, bit, says_eqb, says_true, says_false}
use Rattle.laws.specs.Sum.{sum_eq, count_to}
use Rattle.laws.specs.Tabulate.{tabulate, length_tabulate, get_d_tabulate}
use Rattle.tree_laws.specs.Ancestor.{none, Anc, is_ancestor, Forest}
use Rattle.tree_laws.specs.AncestorLaws.{says_is_ancestor}
use Rattle.tree_laws.specs.Depth.{Depth}
use Rattle.tree_laws.specs.DepthLaws.{depth_forest}
use Rattle.tree_laws.specs.Size.{size}
use Rattle.tree_laws.specs.SizeDepth.{depth_below_lem}
use Rattle.plain_list.specs.PlainList.{PlainList, parent_of, with_link}
use Rattle.plain_list.proofs.Column.{length_one_more}
use Rattle.plain_list.specs.Naive.{ancestors_of, is_in}
use Rattle.plain_list.proofs.AnswerLaws.{forest_agree, anc_agree, anc_agree_back}
use Rattle.plain_list.proofs.NaiveLaws.{says_above}
use Rattle.plain_list.specs.PlainStep.{root_in}
use Rattle.plain_list.specs.StoredList.{StoredList, stored_parent, relinked, stored_below}
use Rattle.plain_list.specs.Stores.{Stores}

pub stores_empty : (up : ℕ → ℕ) → Stores up 0 []
stores_empty up = record { count = refl; parents = λ x i. absurd (omega arith) }

module _ {up up' : ℕ → ℕ} {n : ℕ} {l : StoredList} (s : Stores up n l) where
  -- a node more, stored under v: the old nodes keep their parents
  pub stores_node : {v : ℕ} → ((x : ℕ) → x < n → up' x ≡ up x) → up' n ≡ v → Stores up' (suc n) (l ++ (v ∷ []))
  stores_node {v} stay new = record {
    count = length_one_more l v ∙ ap suc s.count;
    parents = λ x i. elim (ℕ_discrete x n) [
      | yes e ↦ rw e (new ∙ sym (get_or_at l v [] none n s.count))
      | no d ↦ let j : x < n = omega arith in stay x j ∙ s.parents x j ∙ sym (get_or-append l (v ∷ []) none x (omega (arith, s.count)))
    ];
  }

  -- a link: the nodes of the tree of x come under their plain parents, the others keep their parents
  pub stores_link : (p : PlainList) (x v door : ℕ) → ((w : ℕ) → w < n → root_in p w ≡ x → up' w ≡ parent_of (with_link p x v door) w)
      → ((w : ℕ) → w < n → root_in p w ≢ x → up' w ≡ up w) → Stores up' n (tabulate (relinked p l x v door) (length l))
  stores_link p x v door moved stay = record {
    count = length_tabulate _ (length l) ∙ s.count;
    parents = λ w i. elim (ℕ_discrete (root_in p w) x) [
      | yes e ↦ moved w i e ∙ sym (read w i ∙ (rw (says_true (says_eqb (root_in p w) x) e) refl))
      | no d ↦ stay w i d ∙ s.parents w i ∙ sym (read w i ∙ (rw (says_false (says_eqb (root_in p w) x) d) refl))
    ];
  }
    where
      read : (w : ℕ) → w < n → stored_parent (tabulate (relinked p l x v door) (length l)) w ≡ relinked p l x v door w
      read w i = get_d_tabulate (relinked p l x v door) (length l) w none (omega (arith, s.count))

-- the nodes at or below h, counted over the list, are those over up
pub stores_below : {up depth : ℕ → ℕ} {n : ℕ} {l : StoredList} → Depth up depth n → Stores up n l → (h : ℕ) → size up depth n h ≡ stored_below l h
unfolding size stored_below
stores_below {up} {depth} {n} {l} t s h =
    sum_eq (λ w. bit (is_ancestor up depth h w)) (λ w. bit (is_in h (ancestors_of (stored_parent l) (length l) w))) n
    (λ w i. ap bit (says_eq (anc_agree was same i) (anc_agree_back was same i) (says_is_ancestor was h w i) (walked w i)))
    ∙ ap (count_to (λ w. is_in h (ancestors_of (stored_parent l) (length l) w))) (sym s.count)
  where
    was : Forest up depth n
    was = depth_forest t

    same : (x : ℕ) → x < n → stored_parent l x ≡ up x
    same x i = sym (s.parents x i)

    listed : Forest (stored_parent l) depth n
    listed = forest_agree was same

    walked : (w : ℕ) → w < n → Says (Anc (stored_parent l) h w) (is_in h (ancestors_of (stored_parent l) (length l) w))
    walked w i = says_above listed (length l) w i (omega (arith, s.count, depth_below_lem t w i))
