-- `end_line` writes the last line part by part.
use Rattle.lines.specs.LineLaws.{end_written}
use Rattle.lines.proofs.end_line.Goals as goal

pub returns : goal.returns
returns c =
    let both = end_written c.put_byte-2.new.self c.args.count c.args.total c.ranges.count.fits c.ranges.total.fits
    (simp (c.put_byte-2.ensures, c.put_number-2.ensures, c.put_byte.ensures, c.put_number.ensures, c.put_bytes.ensures, c.empty-t.ensures)) in
    record { text = both.0; fits = both.1 }
