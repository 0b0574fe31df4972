-- `need` by quotient and remainder.
use Rattle.inspect_spans.specs.Grouped.{need_split}
use Rattle.inspect_spans.proofs.nested.need.Goals as goal

pub returns : goal.returns
returns c = need_split c.args.used
