-- The refusals of a link in their order: each where those before it do not hold.
use Rattle.std.specs.Prelude.{◌≡◌, Some, None, Ok, Err, true, false, ◌≢◌, List, ℕ, ◌≤◌, ◌<◌}
use Rattle.std.proofs.Common.{eq-eqb, ne_eqb, lt-ltb, le-ltb}
use Rattle.tree_laws.specs.Ancestor.{none}
use Rattle.table.specs.declared.refusal.Refusal.TheVariants.{UnknownNode, Misfit, Corrupt, BadLabel, NotRoot, SameTree}
use Rattle.table.specs.declared.state.State.{State}
use Rattle.table.specs.Parts.{Parts}
use Rattle.table.specs.State.{is_standing}
use Rattle.table.specs.Table.{table_of}
use Rattle.table.specs.Tree.{tree_at, root_at}
use Rattle.tally.specs.Fit.{capacity_with}
use Rattle.tally.specs.Count.{is_movable}
use Rattle.inspect.specs.Inspects.{inspects}
use Rattle.growth_plan.specs.Plan.{is_label}
use Rattle.link_plan.specs.Check.{trees, link_within, link_checked}

pub trees_are : {a b l r : ℕ} → a ≡ l → b ≡ r → trees a b ≡ trees l r
trees_are e d = rw (e, d)

module _ (p : Parts) (w : List ℕ) (scratch : ℕ) (s : State) (x v door : ℕ) where
  pub check_misfit : None ≡ capacity_with p w → Err Misfit ≡ link_checked p w scratch s x v door
  unfolding link_checked
  check_misfit e = rw (← e)

  module _ (c : ℕ) (fit : Some c ≡ capacity_with p w) where
    pub check_scratch : scratch ≢ c → Err Misfit ≡ link_checked p w scratch s x v door
    unfolding link_checked link_within
    check_scratch z = rw (← fit, ne_eqb scratch c z)

    module _ (a : scratch ≡ c) where
      pub check_x : s.count ≤ x → Err UnknownNode ≡ link_checked p w scratch s x v door
      unfolding link_checked link_within
      check_x z = rw (← fit, eq-eqb scratch c a, le-ltb x s.count z)

      module _ (b : x < s.count) where
        pub check_v : s.count ≤ v → Err UnknownNode ≡ link_checked p w scratch s x v door
        unfolding link_checked link_within
        check_v z = rw (← fit, eq-eqb scratch c a, lt-ltb x s.count b, le-ltb v s.count z)

        module _ (d : v < s.count) where
          pub check_label : is_label door ≡ false → Err BadLabel ≡ link_checked p w scratch s x v door
          unfolding link_checked link_within
          check_label z = rw (← fit, eq-eqb scratch c a, lt-ltb x s.count b, lt-ltb v s.count d, z)

          module _ (e : is_label door ≡ true) where
            pub check_count : is_standing c s ≡ false → Err Corrupt ≡ link_checked p w scratch s x v door
            unfolding link_checked link_within
            check_count z = rw (← fit, eq-eqb scratch c a, lt-ltb x s.count b, lt-ltb v s.count d, e, z)

            module _ (g : is_standing c s ≡ true) where
              pub check_lost : root_at p.fields p.ancestors s.count x ≡ none → Err Corrupt ≡ link_checked p w scratch s x v door
              unfolding link_checked link_within
              check_lost z = rw (← fit, eq-eqb scratch c a, lt-ltb x s.count b, lt-ltb v s.count d, e, g, eq-eqb (root_at p.fields p.ancestors s.count x) none z)

              module _ (h : root_at p.fields p.ancestors s.count x ≢ none) where
                pub check_not_root : root_at p.fields p.ancestors s.count x ≢ x → Err NotRoot ≡ link_checked p w scratch s x v door
                unfolding link_checked link_within
                check_not_root z = rw (← fit, eq-eqb scratch c a, lt-ltb x s.count b, lt-ltb v s.count d, e, g, ne_eqb (root_at p.fields p.ancestors s.count x) none h, ne_eqb (root_at p.fields p.ancestors s.count x) x z)

                module _ (i : root_at p.fields p.ancestors s.count x ≡ x) where
                  pub check_other_lost : tree_at p.ancestors s.count v ≡ none → Err Corrupt ≡ link_checked p w scratch s x v door
                  unfolding link_checked link_within
                  check_other_lost z = rw (← fit, eq-eqb scratch c a, lt-ltb x s.count b, lt-ltb v s.count d, e, g, ne_eqb (root_at p.fields p.ancestors s.count x) none h, eq-eqb (root_at p.fields p.ancestors s.count x) x i, eq-eqb (tree_at p.ancestors s.count v) none z)

                  module _ (j : tree_at p.ancestors s.count v ≢ none) where
                    pub check_same : tree_at p.ancestors s.count v ≡ tree_at p.ancestors s.count x → Err SameTree ≡ link_checked p w scratch s x v door
                    unfolding link_checked link_within
                    check_same z = rw (← fit, eq-eqb scratch c a, lt-ltb x s.count b, lt-ltb v s.count d, e, g, ne_eqb (root_at p.fields p.ancestors s.count x) none h, eq-eqb (root_at p.fields p.ancestors s.count x) x i, ne_eqb (tree_at p.ancestors s.count v) none j, eq-eqb (tree_at p.ancestors s.count v) (tree_at p.ancestors s.count x) z)

                    module _ (k : tree_at p.ancestors s.count v ≢ tree_at p.ancestors s.count x) where
                      pub check_inspect : inspects c (table_of p s.count) w ≡ false → Err Corrupt ≡ link_checked p w scratch s x v door
                      unfolding link_checked link_within
                      check_inspect z = rw (← fit, eq-eqb scratch c a, lt-ltb x s.count b, lt-ltb v s.count d, e, g, ne_eqb (root_at p.fields p.ancestors s.count x) none h, eq-eqb (root_at p.fields p.ancestors s.count x) x i, ne_eqb (tree_at p.ancestors s.count v) none j, ne_eqb (tree_at p.ancestors s.count v) (tree_at p.ancestors s.count x) k, z)

                      module _ (l : inspects c (table_of p s.count) w ≡ true) where
                        pub check_tally : is_movable w c 0 door ≡ false → Err Corrupt ≡ link_checked p w scratch s x v door
                        unfolding link_checked link_within
                        check_tally z = rw (← fit, eq-eqb scratch c a, lt-ltb x s.count b, lt-ltb v s.count d, e, g, ne_eqb (root_at p.fields p.ancestors s.count x) none h, eq-eqb (root_at p.fields p.ancestors s.count x) x i, ne_eqb (tree_at p.ancestors s.count v) none j, ne_eqb (tree_at p.ancestors s.count v) (tree_at p.ancestors s.count x) k, l, z)

                        pub check_serve : is_movable w c 0 door ≡ true → Ok (trees (tree_at p.ancestors s.count x) (tree_at p.ancestors s.count v)) ≡ link_checked p w scratch s x v door
                        unfolding link_checked link_within
                        check_serve z = rw (← fit, eq-eqb scratch c a, lt-ltb x s.count b, lt-ltb v s.count d, e, g, ne_eqb (root_at p.fields p.ancestors s.count x) none h, eq-eqb (root_at p.fields p.ancestors s.count x) x i, ne_eqb (tree_at p.ancestors s.count v) none j, ne_eqb (tree_at p.ancestors s.count v) (tree_at p.ancestors s.count x) k, l, z)
