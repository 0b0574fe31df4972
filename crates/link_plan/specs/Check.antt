-- What a link decides before its first store: the refusals in their order: 3, 1, 5, 4 (count), 4 (the tree of x), 10, 4 (the tree of v), 11,
-- 4 (inspection), 4 (an entry of the tally that cannot change so).
use Rattle.std.specs.Prelude.{Result, Ok, Err, Bool, not, List, ℕ, eqb, ltb}
use Rattle.laws.specs.Test.{pick}
use Rattle.tree_laws.specs.Ancestor.{none}
use Rattle.table.specs.declared.refusal.Refusal.{Refusal}
use Rattle.table.specs.declared.refusal.Refusal.TheVariants.{UnknownNode, Misfit, Corrupt, BadLabel, NotRoot, SameTree}
use Rattle.table.specs.declared.state.State.{State}
use Rattle.table.specs.Parts.{Parts}
use Rattle.table.specs.State.{is_standing}
use Rattle.table.specs.Table.{table_of}
use Rattle.table.specs.Tree.{tree_at, root_at}
use Rattle.tally.specs.Fit.{capacity_with}
use Rattle.tally.specs.Count.{is_movable}
use Rattle.inspect.specs.Inspects.{inspects}
use Rattle.table.specs.Capacity.{on_fit}
use Rattle.growth_plan.specs.Plan.{is_label}
use Rattle.link_plan.specs.declared.Trees.{Trees}

-- refused unless a test holds
abbrev pub provided : Bool → Refusal → Result Trees Refusal → Result Trees Refusal
provided b r k = pick b k (Err r)

-- the first rows of the linked tree and of the receiving one
abbrev pub trees : ℕ → ℕ → Trees
trees l r = record { linked = l; receiving = r }

-- in parts and a tally that fit the capacity c; `door` is the label that the linked root takes
unfoldable pub link_within : Parts → List ℕ → ℕ → ℕ → State → ℕ → ℕ → ℕ → Result Trees Refusal
link_within p w c scratch s x v door =
    provided (eqb scratch c) Misfit
    (provided (ltb x s.count) UnknownNode
    (provided (ltb v s.count) UnknownNode
    (provided (is_label door) BadLabel
    (provided (is_standing c s) Corrupt
    (provided (not (eqb (root_at p.fields p.ancestors s.count x) none)) Corrupt
    (provided (eqb (root_at p.fields p.ancestors s.count x) x) NotRoot
    (provided (not (eqb (tree_at p.ancestors s.count v) none)) Corrupt
    (provided (not (eqb (tree_at p.ancestors s.count v) (tree_at p.ancestors s.count x))) SameTree
    (provided (inspects c (table_of p s.count) w) Corrupt
    (provided (is_movable w c 0 door) Corrupt
    (Ok (trees (tree_at p.ancestors s.count x) (tree_at p.ancestors s.count v)))))))))))))

-- with a scratch of this length
unfoldable pub link_checked : Parts → List ℕ → ℕ → State → ℕ → ℕ → ℕ → Result Trees Refusal
link_checked p w scratch s x v door = on_fit (capacity_with p w) (λ c. link_within p w c scratch s x v door) (Err Misfit)
