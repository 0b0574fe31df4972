-- The level check of refusal 4 (01: "a level outside −32,767 to 32,767"), asked where a level is read; and when two levels are equal.
use Rattle.std.specs.Prelude.{Bool, false, ℕ, leb, eqb, ℤ, pos, negsuc, nat_abs}

abbrev pub level_limit : ℕ
level_limit = 32767

abbrev pub is_level : ℤ → Bool
is_level l = leb (nat_abs l) level_limit

-- two levels are equal
abbrev pub eq_z : ℤ → ℤ → Bool
eq_z (pos a) (pos b) = eqb a b
eq_z (pos a) (negsuc b) = false
eq_z (negsuc a) (pos b) = false
eq_z (negsuc a) (negsuc b) = eqb a b
