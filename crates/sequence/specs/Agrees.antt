-- When a reply is the plain list's (01: "a list of calls gives the outcomes of the plain list").
use Rattle.std.specs.Prelude.{true, List, [], ◌∷◌, ℕ, pos}
use Rattle.tree_laws.specs.Answer.{Answer}
use Rattle.plain_list.specs.PlainStep.{PlainReply, refusal as plain_refusal, node as plain_node, linked as plain_linked, answered as plain_answered, same as plain_same, passes as plain_passes}
use Rattle.sequence.specs.Calls.{Reply, refusal, node, linked, answered, same, passes}

-- the same refusal, node, link, six values, 1 or 0, or yes; the rows renumbered and their head are not the plain list's to tell
pub data Agrees : PlainReply → Reply → Type 0 where
  refusals : (n : ℕ) → Agrees (plain_refusal n) (refusal n)
  nodes : (n rows head : ℕ) → Agrees (plain_node n) (node n rows head)
  links : (rows head : ℕ) → Agrees plain_linked (linked rows head)
  answers : (r : Answer) → Agrees (plain_answered r) (answered r.nca r.to_x r.to_y (pos r.distance_x) (pos r.distance_y) r.label)
  alikes : (b : ℕ) → Agrees (plain_same b) (same b)
  pass : Agrees plain_passes (passes true)

-- reply by reply, and as many
pub data AllAgree : List PlainReply → List Reply → Type 0 where
  end : AllAgree [] []
  next : {r : PlainReply} {s : Reply} {rs : List PlainReply} {ss : List Reply} → Agrees r s → AllAgree rs ss → AllAgree (r ∷ rs) (s ∷ ss)
