-- Ancestor entries (01, "Ancestor entry i (0 to 121) of a row"; inspection's rule 6).
use Rattle.std.specs.Prelude.{ℕ, ◌*◌, ◌^◌, ◌<◌, Bool, ◌==◌, nat_lt}
use Rattle.laws.specs.Test.{pick}
use Rattle.tree_laws.specs.Ancestor.{none, Anc}
use Rattle.tree_laws.specs.Highest.{highest_from}
use Rattle.span.specs.Constants.{ratio_up, ratio_down}
use Rattle.span.specs.Power.{power}
use Rattle.layer.specs.Layout.{entry_stride}
use Rattle.layer.specs.Layer.{Layer, upper}
use Rattle.layer.specs.Spans.{reach}

-- 3 σ(a)^4 lies below (10/7)^i
abbrev pub BelowPower : Layer → ℕ → ℕ → Type 0
BelowPower t i a = reach t a * ratio_down ^ i < ratio_up ^ i

-- the highest compressed ancestor b of x with 3 σ(b)^4 below (10/7)^i, or none
pub data Entry (t : Layer) (i x : ℕ) : ℕ → Type 0 where
  absent : ((a : ℕ) → Anc (upper t) a x → BelowPower t i a → ⊥) → Entry t i x none
  highest : {b : ℕ} → Anc (upper t) b x → BelowPower t i b → ((a : ℕ) → Anc (upper t) a x → BelowPower t i a → Anc (upper t) b a) → Entry t i x b

-- all entries of x
abbrev pub Entries : Layer → ℕ → Type 0
Entries t x = (i : ℕ) → i < entry_stride → Entry t i x (t.entry x i)

-- how they are made: each from that of the compressed parent

-- a reach 3 σ^4 lies below (10/7)^i, as a test
abbrev pub is_below : ℕ → ℕ → Bool
is_below reach i = nat_lt reach (power i)

-- entry i of a row x of this reach, whose compressed parent has e: the same, or where that is none x itself if its reach lies below
abbrev pub entry_from : ℕ → ℕ → ℕ → ℕ → ℕ
entry_from x reach i e = highest_from (λ y. is_below reach i) e x

-- entry i of the compressed parent u, none where there is none
abbrev pub entry_above : (ℕ → ℕ → ℕ) → ℕ → ℕ → ℕ
entry_above entry u i = pick (u == none) none (entry u i)

-- entry i of row x, by the columns of entries, compressed parents and reaches
abbrev pub entry_through : (ℕ → ℕ → ℕ) → (ℕ → ℕ) → (ℕ → ℕ) → ℕ → ℕ → ℕ
entry_through entry up reach x i = entry_from x (reach x) i (entry_above entry (up x) i)
