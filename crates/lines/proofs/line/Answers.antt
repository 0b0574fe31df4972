-- `line` writes the line of a field part by part.
use Rattle.lines.specs.LineLaws.{line_written}
use Rattle.lines.proofs.Values.{values_small}
use Rattle.lines.proofs.line.Goals as goal

pub returns : goal.returns
returns c =
    let a = c.args in
    let g = c.well_formed.1.1.0.1 in
    let both = line_written c.put_byte-3.new.self a.ordinal a.letter a.values a.count c.ranges.ordinal.fits g.0.1 (values_small a.values _ g.1)
    (simp (c.put_byte-3.ensures, c.put_values.ensures, c.put_byte-2.ensures, c.put_byte.ensures, c.put_number.ensures, c.empty-t.ensures)) in
    record { text = both.0; fits = both.1 }
