-- A layer with one row more, which stands alone.
use Rattle.std.specs.Prelude.{suc, eqb}
use Rattle.laws.specs.Test.{pick}
use Rattle.tree_laws.specs.Ancestor.{none}
use Rattle.span.specs.Numbers.{reach_of}
use Rattle.layer.specs.declared.row.Row.{Row}
use Rattle.layer.specs.Layer.{Layer, parent}
use Rattle.layer.specs.Entries.{entry_from}

-- the row
abbrev pub lone_row : Row
lone_row = record {
  parent = none;
  first = none;
  last = none;
  next = none;
  upper = none;
  path = none;
  size = 1;
  set_size = 1;
  depth = 0;
  start = 0;
  next_free = 1;
}

-- one row more
abbrev pub with_lone : Layer → Layer
with_lone t = record {
  count = suc t.count;
  row = λ x. pick (eqb x t.count) lone_row (t.row x);
  entry = λ x i. pick (eqb x t.count) (entry_from x (reach_of 1) i none) (t.entry x i);
}
