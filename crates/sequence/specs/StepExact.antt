-- What one call does, where the table stands beside the plain list (01, "Demand 3 and the plain list"; 02, "Coupled rooms").
use Rattle.std.specs.Prelude.{◌≡◌, Bool, List, ℕ, ◌+◌}
use Rattle.table.specs.Table.{Table}
use Rattle.layer.specs.Layer.{parent}
use Rattle.layer.specs.StoredTree.{first as first_row}
use Rattle.table.specs.PlainTree.{root as root_of}
use Rattle.query.specs.FewRows.{DrawsOn}
use Rattle.growth_laws.specs.Growth.{Growth, leaf as new_leaf, root as new_root}
use Rattle.growth_laws.specs.Grown.{Grown, Started}
use Rattle.growth_laws.specs.GrowthFrame.{GrowthFrame, StartFrame}
use Rattle.link_laws.specs.Link.{Linked}
use Rattle.link_laws.specs.LinkFrame.{LinkFrame}
use Rattle.plain_list.specs.PlainList.{PlainList}
use Rattle.plain_list.specs.PlainTally.{PlainTally}
use Rattle.plain_list.specs.PlainStep.{PlainOutcome}
use Rattle.plain_list.specs.StoredList.{StoredList, stored_below, stored_by}
use Rattle.plain_list.specs.Stores.{Stores}
use Rattle.sequence.specs.Calls.{Call, first, leaf, root, root_over, link, question, refusal, node, linked, told}
use Rattle.sequence.specs.Run.{Fast, table_in, Turn, rows_in}
use Rattle.sequence.specs.Agrees.{Agrees, links}
use Rattle.sequence.specs.Invariant.{Stands}

-- the growth of table t that a call asks for; 01's new root goes over that of the tree of node 0
pub data Asks (t : Table) : Call → Growth → Type 0 where
  asks_leaf : {v l a : ℕ} {s : List ℕ} → Asks t (leaf v l a s) (new_leaf v l a)
  asks_root : {named : Bool} {opening : ℕ} {s : List ℕ} → Asks t (root named opening s) (new_root (root_of t 0) named opening)
  asks_over : {x : ℕ} {named : Bool} {opening : ℕ} {s : List ℕ} → Asks t (root_over x named opening s) (new_root x named opening)

-- a call that begins a tree; 01's new root does where there is no node
pub data Begins (t : Table) : Call → Type 0 where
  begins_first : {s : List ℕ} → Begins t (first s)
  begins_root : {named : Bool} {opening : ℕ} {s : List ℕ} → t.layer.count ≡ 0 → Begins t (root named opening s)

-- by call q table t, of capacity c, became table d, k is how many rows were renumbered, and h is their head; l is the stored list after the call. What the
-- frame names did not change
pub data Renumbers (c : ℕ) (l : StoredList) (t d : Table) (k h : ℕ) : Call → Type 0 where
  -- by a growth: the head of its chain, and all rows below it in the stored tree
  growth : {q : Call} {g : Growth} → Asks t q g → Grown t d g h → GrowthFrame c t d g h → k ≡ stored_below l h → Renumbers c l t d k h q
  -- by a first node: its own row, which heads itself
  start : {q : Call} → Begins t q → Started t d → StartFrame c t d → k ≡ 1 → h ≡ t.layer.count → Renumbers c l t d k h q
  -- by a link: those of all its joinings, added up; its head is the first row of the receiving stored tree
  joinings : {x v door : ℕ} {s : List ℕ} → Linked t d x v door k → LinkFrame c t d x v → h ≡ first_row t.layer v → Renumbers c l t d k h (link x v door s)

-- a question draws on at most so many rows
abbrev pub most_rows : ℕ
most_rows = 64

-- the turn u of call q on f is the plain list's outcome o, and l is the stored list after it
pub record StepExact (c : ℕ) (f : Fast) (l : StoredList) (q : Call) (o : PlainOutcome) (u : Turn) : Type 0 where
  -- the plain list gives the same outcome
  pub agrees : Agrees o.reply u.reply
  -- a question draws on few rows
  pub few : (x y : ℕ) → q ≡ question x y → DrawsOn most_rows c f.parts f.state x y
  -- a served growth renumbers its head and all rows below it in the stored tree, a first node itself, and it answers how many these are, and the head
  pub renumbers : (n k h : ℕ) → u.reply ≡ node n k h → Renumbers c l (table_in f) (table_in u.after) k h q
  -- and so does a served link
  pub links : (k h : ℕ) → u.reply ≡ linked k h → Renumbers c l (table_in f) (table_in u.after) k h q
  -- the stored parents of the table are then the stored list's
  pub stored : Stores (parent (table_in u.after).layer) u.after.state.count l
  -- the tally is then the full count over the plain list's labels, and its last entry names the commonest, the smaller on a tie
  pub tally : PlainTally o.after u.after.tally
  -- a refusal leaves parts, tally and count as they went in
  pub kept : (n : ℕ) → u.reply ≡ refusal n → u.after ≡ f

-- the same, and the table stands beside the lists again, which were p and l before
pub record StepStands (c : ℕ) (f : Fast) (p : PlainList) (l : StoredList) (total joinings : ℕ) (q : Call) (o : PlainOutcome) (u : Turn) : Type 0 where
  pub exact : StepExact c f (stored_by p l (told q) o.reply) q o u
  pub stands : Stands c u.after o.after (stored_by p l (told q) o.reply) (total + rows_in u.reply) (joinings + o.joined)
