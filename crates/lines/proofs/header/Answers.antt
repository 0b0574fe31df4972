-- `header` writes the first line part by part.
use Rattle.lines.specs.LineLaws.{header_written}
use Rattle.lines.proofs.header.Goals as goal

pub returns : goal.returns
returns c =
    let both = header_written c.put_byte.new.self c.args.capacity c.ranges.capacity.fits
    (simp (c.put_byte.ensures, c.put_number.ensures, c.put_bytes.ensures, c.empty-t.ensures)) in
    record { text = both.0; fits = both.1 }
