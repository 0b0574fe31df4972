-- `reply_grown`: node, rows and head as bytes, or a refusal's number.
use Rattle.std.proofs.Common.{List, ◌++◌, ℕ, ap}
use Rattle.byte_numbers.specs.Bytes.{bytes}
use Rattle.byte_numbers.specs.BytesLaws.{sets_all}
use Rattle.replies.specs.Reply.{reply}
use Rattle.byte_replies.proofs.reply_grown.Goals as goal

pub returns-in-Ok : goal.returns-in-Ok
returns-in-Ok c =
    let g = c.in-Ok.g in
    rw (c.in-Ok.is, c.put16-in-Ok-2.ensures, c.put16-in-Ok.ensures, c.put16.ensures)
    (ap (λ (l : List ℕ). reply 0 l) (sets_all c.args.out.now (bytes 2 g.node ++ (bytes 2 g.rows ++ bytes 2 g.head)) c.requires))
