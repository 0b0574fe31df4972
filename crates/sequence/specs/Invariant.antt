-- What stands between two calls: the table passes inspection, its tally too, its plain trees are the plain list's, its stored trees the stored list's, and the rows
-- renumbered so far are paid for.
use Rattle.std.specs.Prelude.{◌≡◌, ℕ}
use Rattle.table.specs.Capacity.{Fits}
use Rattle.layer.specs.Layer.{parent}
use Rattle.table.specs.PlainTree.{plain}
use Rattle.table.specs.Rules.{Rules}
use Rattle.tally.specs.Tally.{TallyOf}
use Rattle.join_laws.specs.Lag.{Paid}
use Rattle.plain_list.specs.PlainList.{PlainList, count_of}
use Rattle.plain_list.specs.Proper.{Proper}
use Rattle.plain_list.specs.Shows.{Shows}
use Rattle.plain_list.specs.StoredList.{StoredList}
use Rattle.plain_list.specs.Stores.{Stores}
use Rattle.sequence.specs.Run.{Fast, table_in}

-- f, at capacity c, stands beside the plain list p and the stored list l after calls that renumbered so many rows in total, in so many joinings
pub record Stands (c : ℕ) (f : Fast) (p : PlainList) (l : StoredList) (total joinings : ℕ) : Type 0 where
  pub fits : Fits c f.parts
  pub rules : Rules c (table_in f)
  pub tally : TallyOf (table_in f) f.tally
  pub proper : Proper c p
  pub shows : Shows (plain (table_in f)) (table_in f).label (table_in f).face p
  pub count : count_of p ≡ f.state.count
  pub stored : Stores (parent (table_in f).layer) f.state.count l
  pub paid : Paid (table_in f).layer total joinings
