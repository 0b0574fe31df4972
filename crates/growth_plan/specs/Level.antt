-- The level of a new row (01: "A leaf's level is its parent's plus one; a new top's is the old source's minus one"; refusal 4: "a level outside −32,767 to
-- 32,767", asked of the level that is read and of the one that is stored).
use Rattle.std.specs.Prelude.{◌&&◌, ℤ, Option, Some, None}
use Rattle.laws.specs.Test.{pick}
use Rattle.table.specs.Level.{is_level}

-- the level w, made from the level z, where both lie within the limits
unfoldable pub level_from : ℤ → ℤ → Option ℤ
level_from z w = pick (is_level z && is_level w) (Some w) None

-- by whether they do
abbrev pub on_level : {A : Type 0} → Option ℤ → (ℤ → A) → A → A
on_level (Some z) found other = found z
on_level None found other = other
