-- The call's answer is exact on all parts, every tally and every scratch that fit one capacity, whatever they hold.
use Rattle.std.specs.Prelude.{◌≡◌, Bool, List, ℕ, length}
use Rattle.laws.specs.Test.{Says, says_eqb, says_true}
use Rattle.table.specs.declared.state.State.{State}
use Rattle.table.specs.Capacity.{Fits}
use Rattle.table.specs.Parts.{Parts}
use Rattle.table.specs.Table.{table_of}
use Rattle.tally.specs.Layout.{tally_length}
use Rattle.tally.specs.FitLaws.{with_told}
use Rattle.inspect.specs.Outcome.{passes}
use Rattle.inspect.specs.Inspects.{inspects}
use Rattle.inspect.specs.Inspection.{inspection}
use Rattle.inspect_exact.specs.Exact.{Passes}
use Rattle.inspect_exact.proofs.Exact.{inspect_exact}

pub record Exact (t : Parts) (w : List ℕ) (c cells : ℕ) (s : State) : Type 0 where
  pub yes : Bool
  pub answer : inspection t w cells s ≡ passes yes
  pub says : Says (Passes c (table_of t s.count) w) yes

pub inspection_exact : (t : Parts) (w : List ℕ) (c cells : ℕ) (s : State) → Fits c t → length w ≡ tally_length → cells ≡ c → Exact t w c cells s
unfolding inspection
inspection_exact t w c cells s f l e = record {
  yes = inspects c (table_of t s.count) w;
  answer = rw (with_told t w f l, says_true (says_eqb cells c) e);
  says = inspect_exact c (table_of t s.count) w f.most l;
}
