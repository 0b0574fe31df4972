-- What is proved of `ForkExact`.
use Rattle.std.specs.Prelude.{refl, ℕ, ◌<◌}
use Rattle.laws.specs.Test.{says_false, says_eqb}
use Rattle.tree_laws.specs.Ancestor.{none, Forest}
use Rattle.tree_laws.specs.AncestorLaws.{row_some, anc_in}
use Rattle.tree_laws.specs.Nca.{Characteristic}
use Rattle.tree_laws.specs.NcaLaws.{branch_over}
use Rattle.ancestry.specs.StoredAnswer.{forked}
use Rattle.ancestry_exact.specs.ForkExact.{ForkExact}

-- branches are rows, so there is a fork of them
pub forked_exact : {up rank : ℕ → ℕ} {n x y a u v : ℕ} → Forest up rank n → x < n → y < n → Characteristic up x y a u v → ForkExact up x y (forked a u v)
unfolding forked
forked_exact {n = n} {a = a} {u = u} {v = v} t l m c =
    let i : u < n = anc_in t l (branch_over c.toward_x) in
    let j : v < n = anc_in t m (branch_over c.toward_y) in
    record {
      fork = record { nca = a; to_x = u; to_y = v };
      sound = rw (says_false (says_eqb u none) (row_some t i refl), says_false (says_eqb v none) (row_some t j refl));
      characteristic = c;
    }
