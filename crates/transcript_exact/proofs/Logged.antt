-- What is proved of `Logged`.
use Rattle.std.specs.Prelude.{refl, Bool, true, false, List, ℕ, eqb}
use Rattle.laws.specs.Test.{pick}
use Rattle.plain_list.specs.Joinings.{Linkless, end as none_asked, next as also}
use Rattle.sequence.specs.Calls.{Call, told_all}
use Rattle.turn.specs.Asked.{Asked, asked_by}
use Rattle.transcript_exact.specs.Logged.{AllLogged, Fair, a_leaf, a_question, a_root, an_alike, fair_call, fair_nothing, logged, none_logged}

-- none of them is a link
pub logged_linkless : {qs : List Call} → AllLogged qs → Linkless (told_all qs)
unfolding told_all
logged_linkless none_logged = none_asked
logged_linkless (logged a_leaf l) = also refl (logged_linkless l)
logged_linkless (logged a_root l) = also refl (logged_linkless l)
logged_linkless (logged a_question l) = also refl (logged_linkless l)
logged_linkless (logged an_alike l) = also refl (logged_linkless l)

fair_pick : (b : Bool) {u v : Asked} → Fair u → Fair v → Fair (pick b u v)
fair_pick true x y = x
fair_pick false x y = y

pub asked_fair : (s : List ℕ) (kind : ℕ) (v : List ℕ) → Fair (asked_by s kind v)
asked_fair s kind v =
    fair_pick (eqb kind 1) (fair_call a_leaf)
    (fair_pick (eqb kind 2) (fair_call a_root)
    (fair_pick (eqb kind 3) (fair_call a_question)
    (fair_pick (eqb kind 4) (fair_call an_alike)
    fair_nothing)))
