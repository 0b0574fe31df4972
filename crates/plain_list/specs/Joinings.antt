-- Joinings against nodes: where no tree is linked, as many nodes join as there are.
use Rattle.std.specs.Prelude.{◌≡◌, Bool, true, false, ◌≢◌}
use mathlib.Core.List.{List, [], ◌∷◌}
use Rattle.plain_list.specs.PlainStep.{PlainCall, first, leaf, root, root_over, link, question, alike, inspection}
use Rattle.plain_list.specs.PlainStep.{PlainReply, linked}

-- no reply says that a tree was linked
pub data Unlinked : List PlainReply → Type 0 where
  end : Unlinked []
  next : {r : PlainReply} {rs : List PlainReply} → r ≢ linked → Unlinked rs → Unlinked (r ∷ rs)

-- a call that asks for a link
abbrev pub is_link : PlainCall → Bool
is_link (first s) = false
is_link (leaf v l f s) = false
is_link (root named opening s) = false
is_link (root_over x named opening s) = false
is_link (link x v door s) = true
is_link (question x y) = false
is_link (alike x y) = false
is_link (inspection s) = false

-- no call asks for one
pub data Linkless : List PlainCall → Type 0 where
  end : Linkless []
  next : {q : PlainCall} {qs : List PlainCall} → is_link q ≡ false → Linkless qs → Linkless (q ∷ qs)
