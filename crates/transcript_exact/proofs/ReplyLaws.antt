-- What the run of a log's calls prints is what the plain list's replies print, with the rows that each call renumbered and their head.
use Rattle.std.specs.Prelude.{◌≡◌, Bool, List, [], ◌∷◌, ℕ, suc, ◌+◌, eqb, ltb, ℤ, length}
use Rattle.std.proofs.Math.Path.{refl}
use Rattle.std.proofs.Common.{ap, ◌∙◌, arith}
use Rattle.std.proofs.Math.Bool.{true, false}
use Rattle.laws.specs.Test.{pick}
use Rattle.tree_laws.specs.Ancestor.{none}
use Rattle.tree_laws.specs.Answer.{Answer}
use Rattle.table.specs.Table.{Table}
use Rattle.table.proofs.Rules.{numbered}
use Rattle.plain_list.specs.PlainList.{PlainList, count_of, with_leaf, with_first, with_root}
use Rattle.plain_list.proofs.PlainListLaws.{node_count, root_count}
use Rattle.plain_list.specs.PlainStep.{leaf as plain_leaf, root as plain_root, question as plain_question, alike as plain_alike}
use Rattle.plain_list.specs.PlainStep.{PlainReply, refusal as plain_refusal, node as plain_node, answered as plain_answered, same as plain_same}
use Rattle.plain_list.specs.PlainStep.{PlainOutcome, replies, refusal_of, unless, grows, is_label, is_face, is_opening, fits_growth, has_room, both_known, root_in, asked as asked_of, plain_outcome}
use Rattle.plain_list.specs.StoredList.{StoredList}
use Rattle.sequence.specs.Calls.{Call, leaf, root, question, alike, told, Reply, refusal, node}
use Rattle.sequence.specs.Run.{Fast, table_in, Turn, step, run, rows_in, total_in}
use Rattle.sequence.specs.Agrees.{Agrees, refusals, nodes, links, answers, alikes, pass}
use Rattle.sequence.specs.Invariant.{Stands}
use Rattle.sequence.specs.StepExact.{Renumbers, growth, start, begins_root, StepStands, joinings}
use Rattle.sequence.proofs.SequenceExact.{step_exact}
use Rattle.report.specs.Printed.{printed, letter_of, printed_by}
use Rattle.transcript.specs.Transcript.{rows}
use Rattle.transcript_exact.specs.Level.{level_in}
use Rattle.transcript_exact.proofs.LevelLaws.{OneTree, one_grown, one_started, level_plain}
use Rattle.transcript_exact.specs.Logged.{Logged, a_leaf, a_root, a_question, an_alike, AllLogged, none_logged, logged}
use Rattle.transcript_exact.specs.Listing.{with_renumbering, replies_from, renumbering_in, renumberings_in, total_of}
use Rattle.transcript_exact.proofs.ReadingLaws.{turns_from}

-- ---- what the plain list replies

-- the plain list refuses a growth, or adds a node
data GrowthOutcome (p : PlainList) : PlainOutcome → Type 0 where
  not_grown : (n : ℕ) → GrowthOutcome p (refusal_of n p)
  one_more : {p' : PlainList} → count_of p' ≡ suc (count_of p) → GrowthOutcome p (grows p p')

module _ (c : ℕ) (p : PlainList) where
  leaf_outcome : (v l f s : ℕ) → GrowthOutcome p (plain_outcome c p (plain_leaf v l f s))
  unfolding plain_outcome
  leaf_outcome v l f s = go (fits_growth s) (ltb v (count_of p)) (is_label l) (is_face f) (has_room c p)
    where
      go : (a b d g e : Bool) → GrowthOutcome p (unless a 3 p (unless b 1 p (unless d 5 p (unless g 13 p (unless e 2 p (grows p (with_leaf p v l f)))))))
      go false b d g e = not_grown 3
      go true false d g e = not_grown 1
      go true true false g e = not_grown 5
      go true true true false e = not_grown 13
      go true true true true false = not_grown 2
      go true true true true true = one_more (node_count p v l f)

  root_outcome : (named : Bool) (opening s : ℕ) → GrowthOutcome p (plain_outcome c p (plain_root named opening s))
  unfolding plain_outcome
  root_outcome named opening s = go (fits_growth s) (is_opening named opening) (has_room c p) (eqb (count_of p) 0)
    where
      go : (a b d e : Bool)
          → GrowthOutcome p (unless a 3 p (unless b 5 p (unless d 2 p (pick e (grows p (with_first p)) (grows p (with_root p (root_in p 0) named opening))))))
      go false b d e = not_grown 3
      go true false d e = not_grown 5
      go true true false e = not_grown 2
      go true true true true = one_more (node_count p none 0 0)
      go true true true false = one_more (root_count p (root_in p 0) named opening)

-- a reply that names no new node
data Plain : PlainReply → Type 0 where
  plain_refused : (n : ℕ) → Plain (plain_refusal n)
  plain_answer : (a : Answer) → Plain (plain_answered a)
  plain_same_lem : (b : ℕ) → Plain (plain_same b)

module _ (c : ℕ) (p : PlainList) (x y : ℕ) where
  asked_plain : {r : PlainReply} → Plain r → Plain (asked_of p x y r).reply
  asked_plain {r} i = go (both_known p x y) (eqb (root_in p x) (root_in p y))
    where
      go : (a b : Bool) → Plain (unless a 1 p (unless b 12 p (replies r p))).reply
      go false b = plain_refused 1
      go true false = plain_refused 12
      go true true = i

  question_plain : Plain (plain_outcome c p (plain_question x y)).reply
  unfolding plain_outcome
  question_plain = asked_plain (plain_answer _)

  alike_plain : Plain (plain_outcome c p (plain_alike x y)).reply
  unfolding plain_outcome
  alike_plain = asked_plain (plain_same_lem _)

-- a reply is the plain list's, with its own rows and head
agrees_rows : {r : PlainReply} {u : Reply} → Agrees r u → u ≡ with_renumbering r (renumbering_in u)
agrees_rows (refusals n) = refl
agrees_rows (nodes n k h) = refl
agrees_rows (links k h) = refl
agrees_rows (answers a) = refl
agrees_rows (alikes b) = refl
agrees_rows pass = refl

-- where it names no new node, the levels do not matter
agrees_still : {r : PlainReply} {u : Reply} → Plain r → Agrees r u → (letter : ℕ) (l m : ℕ → ℤ) → printed letter l u ≡ printed letter m u
agrees_still (plain_refused n) (refusals _) letter l m = refl
agrees_still (plain_answer a) (answers _) letter l m = refl
agrees_still (plain_same_lem b) (alikes _) letter l m = refl

agrees_refused : {n : ℕ} {u : Reply} → Agrees (plain_refusal n) u → u ≡ refusal n
agrees_refused (refusals n) = refl

record New (n : ℕ) (u : Reply) : Type 0 where
  count : ℕ
  head : ℕ
  is : u ≡ node n count head

agrees_new : {n : ℕ} {u : Reply} → Agrees (plain_node n) u → New n u
agrees_new (nodes n k h) = record { count = k; head = h; is = refl }

-- a call of a log, where the table stands beside the plain list and is one tree: one tree again, and what is printed is by the plain list
record Told (f : Fast) (q : Call) (o : PlainOutcome) (u : Turn) : Type 0 where
  one : OneTree (table_in u.after)
  printed : printed_by q u ≡ printed (letter_of q) (level_in o.after) (with_renumbering o.reply (renumbering_in u.reply))

module _ {f : Fast} {p : PlainList} {stored : StoredList} {total joined : ℕ} (s : Stands rows f p stored total joined) (o : OneTree (table_in f)) where
  renumbers_one : {l : StoredList} {q : Call} {k h : ℕ} {d : Table} → Logged q → Renumbers rows l (table_in f) d k h q → OneTree d
  renumbers_one g (growth a k w e) = one_grown (numbered s.rules s.fits.most) k o
  renumbers_one a_root (start (begins_root z) k w e i) = one_started (numbered s.rules s.fits.most) k z
  renumbers_one a_leaf (start z k w e i) = elim z [ ]
  renumbers_one a_question (start z k w e i) = elim z [ ]
  renumbers_one an_alike (start z k w e i) = elim z [ ]
  renumbers_one g (joinings _ _ _) = elim g [ ]

  -- by the reply, with the plain list's levels where it names a new node
  told_by : {q : Call} {r : PlainOutcome} {u : Turn} → Agrees r.reply u.reply → OneTree (table_in u.after)
      → printed_by q u ≡ printed (letter_of q) (level_in r.after) u.reply → Told f q r u
  told_by {q} {r} a i e = record { one = i; printed = e ∙ ap (printed (letter_of q) (level_in r.after)) (agrees_rows a) }

  told_growth : {q : Call} {r : PlainOutcome} {u : Turn} → Logged q → GrowthOutcome p r → StepStands rows f p stored total joined q r u → Told f q r u
  told_growth {q} {u = u} g (not_grown n) e =
      let z = agrees_refused e.exact.agrees in
      told_by e.exact.agrees (rw (e.exact.kept n z) o) (rw z)
  told_growth {q} {u = u} g (one_more {p'} c) e =
      let n = agrees_new e.exact.agrees in
      let i = renumbers_one g (e.exact.renumbers (count_of p) n.count n.head n.is) in
      let t = e.stands in
      let l = level_plain t.rules t.fits.most i t.count t.shows (count_of p) (omega (arith, t.count)) in
      told_by e.exact.agrees i (rw (n.is, l))

  told_asked : {q : Call} {r : PlainOutcome} {u : Turn} → Plain r.reply → u.after ≡ f → StepStands rows f p stored total joined q r u → Told f q r u
  told_asked {q} {r} i z e = told_by e.exact.agrees (rw z o) (agrees_still i e.exact.agrees (letter_of q) _ (level_in r.after))

  told_step : {q : Call} → Logged q → Told f q (plain_outcome rows p (told q)) (step f q)
  unfolding step
  told_step (a_leaf {v = v} {l = l} {a = a} {s = k}) = told_growth a_leaf (leaf_outcome rows p v l a (length k)) (step_exact s (leaf v l a k))
  told_step (a_root {named = b} {opening = l} {s = k}) = told_growth a_root (root_outcome rows p b l (length k)) (step_exact s (root b l k))
  told_step (a_question {x} {y}) = told_asked (question_plain rows p x y) refl (step_exact s (question x y))
  told_step (an_alike {x} {y}) = told_asked (alike_plain rows p x y) refl (step_exact s (alike x y))

pub rows_sum : (rs : List Reply) → total_in rs ≡ total_of (renumberings_in rs)
unfolding total_in total_of renumberings_in
rows_sum [] = refl
rows_sum (r ∷ rs) = ap (λ (n : ℕ). rows_in r + n) (rows_sum rs)

-- all replies
turns_on : {qs : List Call} → AllLogged qs → {f : Fast} {p : PlainList} {stored : StoredList} {total joined : ℕ} → Stands rows f p stored total joined
    → OneTree (table_in f) → turns_from f qs ≡ replies_from p qs (renumberings_in (run f qs).replies)
unfolding turns_from replies_from run renumberings_in
turns_on none_logged s o = refl
turns_on (logged {q} g l) {f} s o =
    let t = told_step s o g in
    rw (t.printed, turns_on l (step_exact s q).stands t.one)

pub turns_plain : {f : Fast} {p : PlainList} {stored : StoredList} {total joined : ℕ} → Stands rows f p stored total joined → OneTree (table_in f) → {qs : List Call} → AllLogged qs
    → turns_from f qs ≡ replies_from p qs (renumberings_in (run f qs).replies)
turns_plain s o l = turns_on l s o
