-- What is true of the label with the most, by counts that agree.
use Rattle.std.specs.Prelude.{◌≡◌, ℕ, ◌≤◌}
use Rattle.std.proofs.Math.Decide.{dec_lt}
use Rattle.std.proofs.Common.{arith}
use Rattle.table.specs.Rules.{label_limit}
use Rattle.tally.specs.Tally.{Most}

-- the label with the most, by counts that agree
pub most_same : {f g : ℕ → ℕ} {k : ℕ} → Most f k → ((j : ℕ) → j ≤ label_limit → f j ≡ g j) → Most g k
most_same {k = k} m e = record {
  label = m.label;
  most = λ j l. omega (arith, m.most j l, e j l, e k m.label);
  smaller = λ j l. omega (arith, m.smaller j l, m.label, e j (omega (arith, m.label)), e k m.label);
}

-- there is one such label
pub most_one : {f : ℕ → ℕ} {a b : ℕ} → Most f a → Most f b → a ≡ b
most_one {a = a} {b} m o = elim (dec_lt a b) [
  | yes l ↦ absurd (omega (arith, o.smaller a l, m.most b o.label))
  | no k ↦ elim (dec_lt b a) [ yes l ↦ absurd (omega (arith, m.smaller b l, o.most a m.label)) | no l ↦ omega arith ]
]
