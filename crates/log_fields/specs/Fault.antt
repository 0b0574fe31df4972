-- The refusals of the reader, by 01's numbers.
use Rattle.std.specs.Prelude.{ℕ}
use Rattle.log_fields.specs.declared.fault.Fault.{Fault}
use Rattle.log_fields.specs.declared.fault.Fault.TheVariants.{BadTag, BadLength, Truncated, DirtyFiller}

abbrev pub number_of : Fault → ℕ
number_of BadTag = 6
number_of BadLength = 7
number_of Truncated = 8
number_of DirtyFiller = 9
