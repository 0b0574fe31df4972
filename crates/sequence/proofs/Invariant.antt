-- What is proved of `Invariant`.
use Rattle.std.specs.Prelude.{◌≡◌, refl, List, [], ℕ, length, replicate}
use Rattle.std.proofs.Common.{◌∙◌}
use Rattle.table.specs.Parts.{Parts}
use Rattle.table.specs.Capacity.{Fits}
use Rattle.table.specs.Table.{table_of}
use Rattle.layer.specs.Layer.{parent}
use Rattle.table.specs.PlainTree.{plain}
use Rattle.tally.specs.Layout.{tally_length}
use Rattle.tally.specs.Tally.{TallyOf}
use Rattle.tally.specs.FitLaws.{with_told}
use Rattle.tally_exact.proofs.CountExact.{cleared_tallied}
use Rattle.growth_laws.proofs.EmptyTable.{total_empty}
use Rattle.laws.specs.Tabulate.{length_tabulate}
use Rattle.set_up.specs.Blank.{blank, parts_after, tally_after}
use Rattle.set_up.specs.BlankLaws.{empty_rules}
use Rattle.plain_list.specs.PlainList.{empty_list}
use Rattle.plain_list.proofs.Proper.{proper_empty}
use Rattle.plain_list.proofs.Shows.{shows_empty}
use Rattle.plain_list.proofs.Stores.{stores_empty}
use Rattle.sequence.specs.Run.{table_in, start}
use Rattle.sequence.specs.Invariant.{Stands}

-- At the start

pub blank_fits : (c : ℕ) (parts : Parts) → Fits c parts → Fits c (blank parts)
unfolding blank
blank_fits c parts f = record {
  least = f.least;
  most = f.most;
  levels = length_tabulate _ _ ∙ f.levels;
  fields = length_tabulate _ _ ∙ f.fields;
  numbers = length_tabulate _ _ ∙ f.numbers;
  ancestors = length_tabulate _ _ ∙ f.ancestors;
}

module _ (c : ℕ) (parts : Parts) (tally : List ℕ) (f : Fits c parts) (long : length tally ≡ tally_length) where
  pub start_fits : Fits c (parts_after parts tally)
  unfolding parts_after
  start_fits = rw (with_told parts tally f long) (blank_fits c parts f)

  start_cleared : tally_after parts tally ≡ replicate tally_length 0
  unfolding tally_after
  start_cleared = rw (with_told parts tally f long, long)

  start_tallied : TallyOf (table_of (parts_after parts tally) 0) (tally_after parts tally)
  start_tallied = rw start_cleared (cleared_tallied (table_of (parts_after parts tally) 0).label)

  pub start_stands : Stands c (start parts tally) empty_list [] 0 0
  start_stands = record {
    fits = start_fits;
    rules = empty_rules c (table_in (start parts tally)) refl;
    tally = start_tallied;
    proper = proper_empty;
    shows = shows_empty (plain (table_in (start parts tally))) (table_in (start parts tally)).label (table_in (start parts tally)).face;
    count = refl;
    stored = stores_empty (parent (table_in (start parts tally)).layer);
    paid = total_empty (table_in (start parts tally)) refl;
  }
