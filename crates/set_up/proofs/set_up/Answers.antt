-- `set_up` answers by what the parts and the tally fit, and leaves them blank or as they were.
use Rattle.std.specs.Prelude.{◌≡◌, ℕ, pos, length, replicate}
use Rattle.std.proofs.Common.{sym, rules}
use Rattle.table.specs.Lent.{parts_in_mut}
use Rattle.tree_laws.specs.Ancestor.{none}
use Rattle.tally.specs.FitLaws.{fits_with}
use Rattle.set_up.specs.BlankLaws.{set_up_misfit, set_up_fits}
use Rattle.set_up.proofs.set_up.Goals as goal

pub returns-in_default : goal.returns-in_default
returns-in_default c =
    let a = c.args in
    let r = set_up_misfit (parts_in_mut a.parts.now) a.tally.now (sym (rw c.read.ensures at c.in_default.ensures)) in
    record { outcome = r.0; after = r.1.0; counts = r.1.1; loans = search rules; lengths = search rules }

pub clear_fields-requires : goal.clear_fields-requires
clear_fields-requires c =
    let a = c.args in
    (fits_with (parts_in_mut a.parts.now) a.tally.now _ (sym (rw c.read.ensures at c.in-Some.ensures))).parts.fields

pub returns : goal.returns
returns c =
    let a = c.args in
    let n : c.fill.new.self ≡ replicate {A = ℕ} (length a.parts.now.numbers.now) 0 = search rules in
    let l : c.fill-2.new.self ≡ replicate (length a.parts.now.levels.now) (pos 0) = search rules in
    let e : c.fill-3.new.self ≡ replicate {A = ℕ} (length a.parts.now.ancestors.now) none = search rules in
    let r = set_up_fits (parts_in_mut a.parts.now) a.tally.now _ (sym (rw c.read.ensures at c.in-Some.ensures)) c.clear_fields.ensures n l e c.clear.ensures in
    record { outcome = r.0; after = r.1.0; counts = r.1.1; loans = search rules; lengths = search rules }
