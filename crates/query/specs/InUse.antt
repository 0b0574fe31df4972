-- The table that the rows in use and the parts that hold them stand for.
use Rattle.table.specs.Lent.{parts_in}
use Rattle.table.specs.Table.{Table, table_of}
use Rattle.query.specs.declared.rows.Rows.{Rows}

abbrev pub table_in : Rows → Table
table_in t = table_of (parts_in t.parts.now) t.count
