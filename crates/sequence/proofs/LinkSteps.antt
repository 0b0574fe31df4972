-- A link, where the table stands beside the plain list: refused as it refuses, or served, and the table stands beside it again.
use Rattle.std.specs.Prelude.{◌≡◌, true, ◌≢◌, List, ℕ, ◌≤◌, ◌<◌, eqb, length}
use Rattle.std.proofs.Common.{sym, ◌∙◌, arith}
use Rattle.std.proofs.Math.Path.{ap}
use Rattle.std.proofs.Math.Decide.{dec_lt, ℕ_discrete}
use Rattle.laws.specs.Test.{says_true, says_false, says_eqb, says_eq, bit}
use Rattle.laws.specs.Sum.{sum_eq, count_to}
use Rattle.laws.specs.Tabulate.{tabulate}
use Rattle.tree_laws.specs.Ancestor.{none}
use Rattle.table.specs.declared.refusal.Refusal.{Refusal}
use Rattle.table.specs.declared.refusal.Refusal.TheVariants.{UnknownNode, Misfit, BadLabel, NotRoot, SameTree}
use Rattle.table.specs.Refusal.{number_of}
use Rattle.table.specs.Table.{table_of}
use Rattle.table.specs.PlainTree.{plain}
use Rattle.layer.specs.Layer.{parent}
use Rattle.layer.specs.StoredTree.{first}
use Rattle.table.specs.Rules.{label_limit}
use Rattle.growth_plan.specs.Plan.{is_label}
use Rattle.growth_exact.specs.GivenMarks.{says_label}
use Rattle.link_laws.specs.Link.{Linkable, target}
use Rattle.link_laws.proofs.LinkLaws.{link_stored}
use Rattle.link_laws.specs.Order.{is_of_tree, tree_rows}
use Rattle.link.specs.Outcome.{Outcome, refused as not_linked}
use Rattle.link.specs.Link.{Result, result, link_by}
use Rattle.link_exact.specs.LinkServed.{LinkedExactly, link_misfit, link_unknown_x, link_unknown_v, link_label, link_not_root, link_same_tree, link_served}
use Rattle.plain_list.specs.PlainList.{PlainList, count_of, parent_of, with_link}
use Rattle.plain_list.proofs.PlainListLaws.{link_count, link_parent_root, link_parent_other}
use Rattle.plain_list.specs.PlainStep.{refusal as plain_refusal, linked as plain_linked, link as plain_link, refusal_of, root_in, tree_count, plain_outcome}
use Rattle.plain_list.proofs.PlainStepLaws as plainly
use Rattle.plain_list.specs.Proper.{Proper}
use Rattle.plain_list.proofs.Proper.{root_own, proper_link}
use Rattle.plain_list.specs.Shows.{Shows}
use Rattle.plain_list.proofs.Shows.{shows_link}
use Rattle.plain_list.specs.StoredList.{StoredList, relinked}
use Rattle.plain_list.specs.Stores.{Stores}
use Rattle.plain_list.proofs.Stores.{stores_link}
use Rattle.sequence.specs.Calls.{link, refusal}
use Rattle.sequence.specs.Run.{Fast, table_in, Turn, link_reply, after_link, rows_in, head_in, step}
use Rattle.sequence.specs.Agrees.{links}
use Rattle.sequence.specs.Invariant.{Stands}
use Rattle.sequence.specs.StepExact.{joinings, StepStands}
use Rattle.sequence.proofs.StepExact.{few_rows}
use Rattle.sequence.proofs.Tally.{tally_shown}
use Rattle.sequence.proofs.Trees.{in_use, known, tree_roots, roots_tree, root_top, top_root}
use Rattle.sequence.proofs.AskedSteps.{steps_by, still_refused}

module _ {c : ℕ} {f : Fast} {p : PlainList} {stored : StoredList} {total joined : ℕ} (s : Stands c f p stored total joined) (x v door : ℕ) where
  -- The tree of a root x

  module _ (h : x < count_of p) (top : parent_of p x ≡ none) where
    own_tree : {w : ℕ} → w < count_of p → root_in p w ≡ x → first (table_in f).layer w ≡ first (table_in f).layer x
    own_tree l e = roots_tree s l h (e ∙ sym (root_own s.proper x h top))

    tree_own : {w : ℕ} → w < count_of p → first (table_in f).layer w ≡ first (table_in f).layer x → root_in p w ≡ x
    tree_own l e = tree_roots s l h e ∙ root_own s.proper x h top

    -- it has as many nodes in the list as rows in the table
    tree_count_lem : tree_count p x ≡ tree_rows (table_in f).layer x
    unfolding tree_count
    tree_count_lem =
        sum_eq (λ w. bit (eqb (root_in p w) x)) (λ w. bit (is_of_tree (table_in f).layer x w)) (count_of p)
        (λ w l. ap bit (says_eq (own_tree l) (tree_own l) (says_eqb (root_in p w) x) (says_eqb (first (table_in f).layer w) (first (table_in f).layer x))))
        ∙ ap (count_to (is_of_tree (table_in f).layer x)) s.count

  -- Served

  module _ (scratch : List ℕ) where
    linkable : x < count_of p → v < count_of p → 1 ≤ door → door ≤ label_limit → parent_of p x ≡ none → root_in p v ≢ x → Linkable (table_in f) x v door
    linkable h i j k top d = record {
      in_use = in_use s h;
      is_root = top_root s h top;
      over = in_use s i;
      other = λ e. d (tree_own h top i e);
      least = j;
      most = k;
    }

    -- the turn that it takes
    abbrev turn : Result → Outcome → Turn
    turn o y = record { reply = link_reply y; after = record { parts = o.parts; tally = o.tally; state = f.state } }

    linked_step : {o : Result} → x < count_of p → v < count_of p → parent_of p x ≡ none → root_in p v ≢ x → LinkedExactly c f.parts f.state x v door o
        → StepStands c f p stored total joined (link x v door scratch) (record { reply = plain_linked; after = with_link p x v door; joined = tree_count p x })
        (after_link f.state o)
    linked_step {o} h i top d e = rw (ap (turn o) e.answered) record {
      exact = record {
        agrees = links _ _;
        few = λ x y _. few_rows f.parts s.fits f.state x y;
        renumbers = λ n k h i. absurd (let z : ◌≡◌ {A = ℕ} 0 1 = cc in omega arith);
        links = λ k h i. joinings (rw (ap rows_in i) at e.linked) e.frame (sym (ap head_in i));
        stored = after;
        tally = tally_shown proper shows count e.tally;
        kept = λ n i. absurd (let z : ◌≡◌ {A = ℕ} 0 1 = cc in omega arith);
      };
      stands = record {
        fits = e.fits;
        rules = e.rules;
        tally = e.tally;
        proper = proper;
        shows = shows;
        count = count;
        stored = after;
        paid = omega (arith, s.paid, e.pays, tree_count_lem h top);
      };
    }
      where
        proper : Proper c (with_link p x v door)
        proper = proper_link s.proper door h i top d

        shows : Shows (plain (table_of o.parts f.state.count)) (table_of o.parts f.state.count).label (table_of o.parts f.state.count).face
            (with_link p x v door)
        shows = shows_link s.proper s.shows
            e.plain.under
            e.plain.labelled
            e.plain.faced
            (λ w l n. e.plain.parents w (in_use s l) n)
            (λ w l n. e.plain.labels w (in_use s l) n)
            (λ w l n. e.plain.faces w (in_use s l) n)

        count : count_of (with_link p x v door) ≡ f.state.count
        count = link_count p x v door ∙ s.count

        target_is : (w : ℕ) → w < count_of p → target (table_in f) x v w ≡ parent_of (with_link p x v door) w
        target_is w l = elim (ℕ_discrete w x) [
          | yes z ↦ rw (says_true (says_eqb w x) z, z) (sym (link_parent_root p x v door h))
          | no n ↦ rw (says_false (says_eqb w x) n) (s.shows.parents w l ∙ sym (link_parent_other p x v door w n))
        ]

        -- the linked rows stand under their plain parents, the others where they stood
        after : Stores (parent (table_of o.parts f.state.count).layer) f.state.count (tabulate (relinked p stored x v door) (length stored))
        after =
            let q = link_stored s.rules s.fits.most e.linked in
            stores_link s.stored p x v door
            (λ w l i. q.moved w l (own_tree h top (known s l) i) ∙ target_is w (known s l))
            (λ w l n. q.rest w l (λ i. n (tree_own h top (known s l) i)))

    link_served_step : length scratch ≡ c → x < count_of p → v < count_of p → 1 ≤ door → door ≤ label_limit → parent_of p x ≡ none → root_in p v ≢ x
        → StepStands c f p stored total joined (link x v door scratch) (plain_outcome c p (plain_link x v door (length scratch))) (step f (link x v door scratch))
    unfolding step
    link_served_step e h i j k top d =
        rw (plainly.link_served c p x v door (length scratch) e h i j k top d)
        (linked_step h i top d (link_served f.parts f.tally (length scratch) f.state x v door s.fits s.rules s.tally e (linkable h i j k top d)))

    -- Refused

    link_refused : (r : Refusal) → plain_outcome c p (plain_link x v door (length scratch)) ≡ refusal_of (number_of r) p
        → link_by f.parts f.tally (length scratch) f.state x v door ≡ result f.parts f.tally (not_linked r)
        → StepStands c f p stored total joined (link x v door scratch) (plain_outcome c p (plain_link x v door (length scratch))) (step f (link x v door scratch))
    unfolding step
    link_refused r e i = steps_by s (link x v door scratch) (plain_refusal (number_of r)) (refusal (number_of r)) e
        (ap (after_link f.state) i) (still_refused s (link x v door scratch) (number_of r))

    -- a link of known nodes
    link_known : length scratch ≡ c → x < count_of p → v < count_of p
        → StepStands c f p stored total joined (link x v door scratch) (plain_outcome c p (plain_link x v door (length scratch))) (step f (link x v door scratch))
    link_known e h i = elim (dec_lt door 1) [
      | yes d ↦ unlabelled (λ z. omega (arith, z.0))
      | no l ↦ elim (dec_lt label_limit door) [
        | yes d ↦ unlabelled (λ z. omega (arith, z.1))
        | no m ↦ elim (ℕ_discrete (parent_of p x) none) [
          | no d ↦ link_refused NotRoot (plainly.link_no_root c p x v door (length scratch) e h i (omega arith) (omega arith) d)
              (link_not_root f.parts f.tally (length scratch) f.state x v door s.fits s.rules s.tally e (in_use s h) (in_use s i) (labelled (omega arith) (omega arith))
              (λ z. d (root_top s h z)))
          | yes top ↦ elim (ℕ_discrete (root_in p v) x) [
            | yes w ↦ link_refused SameTree (plainly.link_own_tree c p x v door (length scratch) e h i (omega arith) (omega arith) top w)
                (link_same_tree f.parts f.tally (length scratch) f.state x v door s.fits s.rules s.tally e (in_use s h) (in_use s i) (labelled (omega arith) (omega arith))
                (top_root s h top) (own_tree h top i w))
            | no w ↦ link_served_step e h i (omega arith) (omega arith) top w
          ]
        ]
      ]
    ]
      where
        labelled : 1 ≤ door → door ≤ label_limit → is_label door ≡ true
        labelled a b = says_true (says_label door) (a, b)

        unlabelled : ¬ ((1 ≤ door) × (door ≤ label_limit))
            → StepStands c f p stored total joined (link x v door scratch) (plain_outcome c p (plain_link x v door (length scratch))) (step f (link x v door scratch))
        unlabelled d = link_refused BadLabel (plainly.link_no_label c p x v door (length scratch) e h i d)
            (link_label f.parts f.tally (length scratch) f.state x v door s.fits s.tally.long e (in_use s h) (in_use s i) (says_false (says_label door) d))

    pub link_step : StepStands c f p stored total joined (link x v door scratch) (plain_outcome c p (plain_link x v door (length scratch)))
        (step f (link x v door scratch))
    link_step = elim (ℕ_discrete (length scratch) c) [
      | no d ↦ link_refused Misfit (plainly.link_misfit c p x v door (length scratch) d) (link_misfit f.parts f.tally (length scratch) f.state x v door s.fits s.tally.long d)
      | yes e ↦ elim (dec_lt x (count_of p)) [
        | no d ↦ link_refused UnknownNode (plainly.link_unknown c p x v door (length scratch) e (λ z. d z.0))
            (link_unknown_x f.parts f.tally (length scratch) f.state x v door s.fits s.tally.long e (omega (arith, s.count)))
        | yes h ↦ elim (dec_lt v (count_of p)) [
          | no d ↦ link_refused UnknownNode (plainly.link_unknown c p x v door (length scratch) e (λ z. d z.1))
              (link_unknown_v f.parts f.tally (length scratch) f.state x v door s.fits s.tally.long e (omega (arith, s.count)))
          | yes i ↦ link_known e h i
        ]
      ]
    ]
