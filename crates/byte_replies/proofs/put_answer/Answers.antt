-- `put_answer`: the six values one after another.
use Rattle.std.proofs.Common.{rules, List, ◌++◌, ℕ, ap, w32}
use mir.ValLaws.{to_z-of_z}
use Rattle.byte_numbers.specs.Bytes.{bytes}
use Rattle.byte_numbers.specs.BytesLaws.{sets_all}
use Rattle.byte_numbers.specs.Sign.{unsigned}
use Rattle.replies.specs.Reply.{reply}
use Rattle.byte_replies.proofs.put_answer.Goals as goal

pub returns : goal.returns
returns c =
    let a = c.args.a in
    let written = sets_all c.args.out.now (bytes 2 a.nca ++ (bytes 2 a.to_x ++ (bytes 2 a.to_y
    ++ (bytes 4 (unsigned a.distance_x) ++ (bytes 4 (unsigned a.distance_y) ++ bytes 2 a.label))))) c.requires in
    let x = to_z-of_z w32 a.distance_x (search rules) in
    let y = to_z-of_z w32 a.distance_y (search rules) in
    rw (c.put16-4.ensures, c.put32-2.ensures, c.put32.ensures, c.put16-3.ensures, c.put16-2.ensures, c.put16.ensures, c.to_bits.ensures, c.to_bits-2.ensures, x, y)
    (ap (λ (l : List ℕ). reply 0 l) written)
