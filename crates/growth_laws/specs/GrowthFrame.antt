-- What a growth leaves as it was (02: "Rows outside that head and what lies below it stay unchanged, but for sizes on the chain, the source record, the
-- upper row's next free number and the child links of the parent and its children"; "The screen counts the old source's panel among the changes outside the
-- head"; "the screen counts the old source's face as its panel").
use Rattle.std.specs.Prelude.{◌≡◌, ◌≢◌, ℕ, ◌+◌, ◌<◌}
use Rattle.tree_laws.specs.Ancestor.{Anc}
use Rattle.layer.specs.Layer.{parent, upper, size, next_free}
use Rattle.table.specs.Table.{Table}
use Rattle.join_laws.specs.Joined.{SameNode, SamePlace}
use Rattle.join_laws.specs.Lone.{Kept}
use Rattle.join_laws.specs.Renumbered.{Below}
use Rattle.growth_laws.specs.Growth.{Growth, parent_of, opened_by, tree_of}
use Rattle.growth_laws.specs.Grown.{SameMarks}

-- every number and entry of row x is the same in both
pub record Untouched (t d : Table) (x : ℕ) : Type 0 where
  pub row : Kept t.layer d.layer x
  pub marks : SameMarks t d x
  pub same_root : d.root x ≡ t.root x

-- a row that was in use, and is neither the head nor below it in the stored tree afterwards
pub record Outside (t d : Table) (h x : ℕ) : Type 0 where
  pub in_use : x < t.layer.count
  pub apart : ¬ Below d.layer h x

-- table t, of capacity c, became table d by growth g, whose head is h
pub record GrowthFrame (c : ℕ) (t d : Table) (g : Growth) (h : ℕ) : Type 0 where
  -- outside: stored parent and depth; compressed parent, path link, set size, start and entries; level
  pub node : (x : ℕ) → Outside t d h x → SameNode t.layer d.layer x
  pub place : (x : ℕ) → Outside t d h x → SamePlace t.layer d.layer x
  pub level : (x : ℕ) → Outside t d h x → d.level x ≡ t.level x
  -- the label and the face, but of an old root that takes an opening
  pub label_kept : (x : ℕ) → Outside t d h x → x ≢ opened_by g → d.label x ≡ t.label x
  pub face_kept : (x : ℕ) → Outside t d h x → x ≢ opened_by g → d.face x ≡ t.face x
  -- the size, but on the chain, the rows above the head in the compressed tree, where it is one more
  pub size_kept : (x : ℕ) → Outside t d h x → ¬ Anc (upper d.layer) x h → size d.layer x ≡ size t.layer x
  pub size_chain : (x : ℕ) → Outside t d h x → Anc (upper d.layer) x h → size d.layer x ≡ size t.layer x + 1
  -- the root record, but of the first row of a tree with a new root
  pub root_kept : (x : ℕ) → Outside t d h x → x ≢ tree_of t g → d.root x ≡ t.root x
  -- the next free number, but of the head's compressed parent
  pub next_free_kept : (x : ℕ) → Outside t d h x → x ≢ upper d.layer h → next_free d.layer x ≡ next_free t.layer x
  -- the child links, but first and last of the new row's stored parent, and next of that parent's children
  pub first_kept : (x : ℕ) → Outside t d h x → x ≢ parent_of g → (d.layer.row x).first ≡ (t.layer.row x).first
  pub last_kept : (x : ℕ) → Outside t d h x → x ≢ parent_of g → (d.layer.row x).last ≡ (t.layer.row x).last
  pub next_kept : (x : ℕ) → Outside t d h x → parent d.layer x ≢ parent_of g → (d.layer.row x).next ≡ (t.layer.row x).next
  -- a row not in use, the new one aside
  pub unused : (x : ℕ) → t.layer.count < x → x < c → Untouched t d x

-- by a first node, which heads itself, every row but its own is untouched
abbrev pub StartFrame : ℕ → Table → Table → Type 0
StartFrame c t d = (x : ℕ) → x < c → x ≢ t.layer.count → Untouched t d x
