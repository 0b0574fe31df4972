-- What a visit of the walk for numbers leaves, read back, and what holds when some of the rows below the head are placed.
use Rattle.std.specs.Prelude.{◌≡◌, ◌≢◌, List, [], ◌∷◌, ℕ, ◌+◌, ◌*◌, ◌≤◌, ◌<◌, eqb}
use Rattle.laws.specs.Test.{bit}
use Rattle.laws.specs.Sum.{sum_of}
use Rattle.laws.specs.Fourth.{fourth}
use Rattle.tree_laws.specs.Ancestor.{none, Anc, Forest}
use Rattle.tree_laws.specs.ChildLinks.{Member}
use Rattle.tree_laws.specs.Compressed.{Apex, PathChild, UpperStep}
use Rattle.span.specs.Constants.{width}
use Rattle.span.specs.Numbers.{p_of, end_of, reach_of}
use Rattle.layer.specs.Entries.{entry_from, entry_above, entry_through}
use Rattle.renumber_laws.specs.Numbers.{Numbers, head_start}

-- One visit

-- row y keeps all but its next free number
pub record Kept (c d : Numbers) (y : ℕ) : Type 0 where
  pub upper : d.upper y ≡ c.upper y
  pub size : d.size y ≡ c.size y
  pub set_size : d.set_size y ≡ c.set_size y
  pub start : d.start y ≡ c.start y
  pub entry : (i : ℕ) → d.entry y i ≡ c.entry y i

-- row x, of size k, stands below u, its span from a on, and the other rows are kept
pub record Placed (c d : Numbers) (x u a k : ℕ) : Type 0 where
  pub upper : d.upper x ≡ u
  pub size : d.size x ≡ k
  pub set_size : d.set_size x ≡ k
  pub start : d.start x ≡ a
  pub next_free : d.next_free x ≡ p_of a k
  pub entry : (i : ℕ) → d.entry x i ≡ entry_from x (reach_of k) i (entry_above c.entry u i)
  pub above : u ≢ x → d.next_free u ≡ end_of a k
  pub others : (y : ℕ) → y ≢ x → Kept c d y
  pub next_frees : (y : ℕ) → y ≢ x → y ≢ u → d.next_free y ≡ c.next_free y

-- Some rows

abbrev pub p_at : Numbers → ℕ → ℕ
p_at c x = p_of (c.start x) (c.set_size x)

abbrev pub end_at : Numbers → ℕ → ℕ
end_at c x = end_of (c.start x) (c.set_size x)

-- the entries of x are made from those of its compressed parent
abbrev pub FilledAt : Numbers → ℕ → Type 0
FilledAt c x = (i : ℕ) → c.entry x i ≡ entry_through c.entry c.upper (λ y. reach_of (c.set_size y)) x i

-- the fourth power of the set size of w, if w is a compressed child of u
abbrev pub share : Numbers → ℕ → ℕ → ℕ
share c u w = bit (eqb (c.upper w) u) * fourth (c.set_size w)

-- no row stands twice
pub data Once : List ℕ → Type 0 where
  empty : Once []
  first : {x : ℕ} {l : List ℕ} → ¬ Member l x → Once l → Once (x ∷ l)

-- the rows that are placed stand in a list, the last one first: v was placed before w
pub data Earlier : List ℕ → ℕ → ℕ → Type 0 where
  latest : {l : List ℕ} {v w : ℕ} → Member l v → Earlier (w ∷ l) v w
  still : {l : List ℕ} {v w x : ℕ} → Earlier l v w → Earlier (x ∷ l) v w

-- what the walk needs of its head: it is an apex, and its compressed parent does not lie below it
pub record Start (parent path rank : ℕ → ℕ) (n h : ℕ) (b : Numbers) : Type 0 where
  pub tree : Forest parent rank n
  pub in_use : h < n
  pub apex : Apex parent path h
  pub out : b.upper h ≢ none → ¬ Anc parent h (b.upper h)

-- what holds when the rows of l, the head h among them, are placed over the columns b
pub record Done (parent path : ℕ → ℕ) (n h : ℕ) (b : Numbers) (l : List ℕ) (d : Numbers) : Type 0 where
  pub once : Once l
  pub head : Member l h
  pub in_use : (x : ℕ) → Member l x → x < n
  pub below : (x : ℕ) → Member l x → Anc parent h x
  pub parents : (x : ℕ) → Member l x → x ≢ h → Member l (parent x)
  pub kept : (y : ℕ) → ¬ Member l y → Kept b d y
  pub next_free_kept : (y : ℕ) → ¬ Member l y → y ≢ b.upper h → d.next_free y ≡ b.next_free y
  pub upper_head : d.upper h ≡ b.upper h
  pub start_head : d.start h ≡ head_start b h
  pub next_free_head : b.upper h ≢ none → d.next_free (b.upper h) ≡ end_at d h
  pub step : (x : ℕ) → Member l x → x ≢ h → UpperStep parent path d.upper x
  pub uppers : (x : ℕ) → Member l x → x ≢ h → Member l (d.upper x)
  pub size_apex : (x : ℕ) → Member l x → Apex parent path x → d.size x ≡ b.size x
  pub size_path : (x : ℕ) → Member l x → PathChild parent path x → d.size x ≡ 1
  pub set_sizes : (x : ℕ) → Member l x → d.set_size x ≡ d.size x
  pub low : (w : ℕ) → Member l w → w ≢ h → p_at d (d.upper w) ≤ d.start w
  pub high : (w : ℕ) → Member l w → w ≢ h → end_at d w ≤ d.next_free (d.upper w)
  pub order : (v w : ℕ) → Earlier l v w → v ≢ h → w ≢ h → d.upper v ≡ d.upper w → end_at d v ≤ d.start w
  pub next_frees : (u : ℕ) → Member l u → d.next_free u ≡ p_at d u + width * sum_of (share d u) l
  pub filled : (x : ℕ) → Member l x → FilledAt d x
