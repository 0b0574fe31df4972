-- An ancestor entry hangs on the chain of its row only.
use Rattle.std.specs.Prelude.{◌≡◌, ℕ}
use Rattle.tree_laws.specs.Ancestor.{Anc}
use Rattle.tree_laws.specs.AncestorLaws.{trans, anc_copy, anc_back}
use Rattle.layer.specs.Layer.{Layer, upper, set_size}
use Rattle.layer.specs.Entries.{Entry, absent, highest}

-- two layers that agree on the chain of x give it the same entries
pub entry_copy : {t m : Layer} {i x e : ℕ} → ((a : ℕ) → Anc (upper t) a x → upper m a ≡ upper t a)
    → ((a : ℕ) → Anc (upper t) a x → set_size m a ≡ set_size t a) → Entry t i x e → Entry m i x e
entry_copy f g (absent h) = absent (λ a q y. h a (anc_back f q) (rw (g a (anc_back f q)) at y))
entry_copy f g (highest {b} p y h) = highest (anc_copy f p) (rw (g b p) y) (λ a s z.
    let q = anc_back f s in
    anc_copy (λ c w. f c (trans w q)) (h a q (rw (g a q) at z)))
