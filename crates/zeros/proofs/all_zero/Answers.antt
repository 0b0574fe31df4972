-- `all_zero`: what is left past blocks and words decides.
use Rattle.std.specs.Prelude.{◌≡◌, ◌==◌, List, [], ◌∷◌, Bool, ◌&&◌, ℕ, eqb, drop, length}
use Rattle.std.specs.List.{list_all}
use Rattle.std.proofs.Common.{sym, refl, ap, ◌∙◌, arith}
use Rattle.std.proofs.lemmas.Slice.{between_to_end}
use Rattle.zeros.specs.Zeros.{all_zero}
use Rattle.zeros.proofs.all_zero.Goals as goal

each : (bytes : List ℕ) → list_all (λ b. b == 0) bytes ≡ all_zero bytes
each [] = refl
each (b ∷ bytes) = ap (λ (t : Bool). eqb b 0 && t) (each bytes)

pub returns : goal.returns
returns c =
    let a = c.args.bytes.now in
    let rest = c.zero_words-rest.result in
    c.zero_singly.ensures ∙ ap (list_all (λ b. b == 0)) (between_to_end a rest (length a) (omega arith)) ∙ each (drop rest a)
    ∙ sym (c.zero_blocks.ensures.between ∙ c.zero_words-rest.ensures.between)
