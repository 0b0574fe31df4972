-- Bytes copied one after another behind the first bytes of a buffer.
use Rattle.std.specs.Prelude.{◌≡◌, refl, List, [], ◌∷◌, ◌++◌, ℕ, suc, ◌+◌, ◌<◌, length, get_or, set, take}
use Rattle.std.proofs.Common.{sym, ap, ◌∙◌, append_assoc, append-nil, arith, length-set, take-suc, take-suc-set}

-- after i of them
pub record Copied (out₀ : List ℕ) (filled : ℕ) (bytes out : List ℕ) (i : ℕ) : Type 0 where
  pub same : length out ≡ length out₀
  pub text : take (filled + i) out ≡ take filled out₀ ++ take i bytes

module _ (out₀ : List ℕ) (filled : ℕ) (bytes : List ℕ) where
  pub copied_none : Copied out₀ filled bytes out₀ 0
  copied_none = let e : filled + 0 ≡ filled = omega arith in record { same = refl; text = rw e (sym (append-nil (take filled out₀))) }

  pub copied_more : (out : List ℕ) (i : ℕ) → filled + i < length out → i < length bytes → Copied out₀ filled bytes out i
      → Copied out₀ filled bytes (set out (filled + i) (get_or bytes i 0)) (i + 1)
  copied_more out i h l c =
      let b = get_or bytes i 0 in
      let e : filled + (i + 1) ≡ suc (filled + i) = omega arith in
      let f : i + 1 ≡ suc i = omega arith in
      record {
        same = length-set out (filled + i) b ∙ c.same;
        text = rw (e, f)
            (take-suc-set out (filled + i) b h
            ∙ ap (λ (t : List ℕ). t ++ b ∷ []) c.text
            ∙ append_assoc (take filled out₀) (take i bytes) (b ∷ [])
            ∙ ap (λ (t : List ℕ). take filled out₀ ++ t) (sym (take-suc bytes i 0 l)));
      }
