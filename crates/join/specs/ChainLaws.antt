-- One row of the walk up the chain.
use Rattle.std.specs.Prelude.{◌≡◌, true, false, ◌≢◌, List, Some, None}
use Rattle.std.proofs.Math.Path.{refl}
use Prim.Native.Nat.{ℕ, zero, suc}
use borrow.Author.Tests.{eq-eqb, ne_eqb}
use Rattle.laws.specs.Test.{pick}
use Rattle.tree_laws.specs.Ancestor.{none}
use Rattle.layer.specs.Layout.{upper_place}
use Rattle.layer.specs.Row.{field_at, row_of}
use Rattle.layer.specs.Checked.{is_row}
use Rattle.join.specs.Chain.{outgrown_at, top_from, raised_at, raised}

module _ (f m : List ℕ) (n u top : ℕ) where
  pub top_stop : (fuel : ℕ) → u ≡ none → top_from fuel f m n u top ≡ Some top
  unfolding top_from
  top_stop zero e = rw (eq-eqb u none e)
  top_stop (suc fuel) e = rw (eq-eqb u none e)

  pub top_long : (fuel : ℕ) → fuel ≡ 0 → u ≢ none → top_from fuel f m n u top ≡ None
  unfolding top_from
  top_long fuel z d = rw (z, ne_eqb u none d)

  pub top_corrupt : (fuel : ℕ) → u ≢ none → is_row n (row_of f m) u ≡ false → top_from fuel f m n u top ≡ None
  unfolding top_from
  top_corrupt zero d e = rw (ne_eqb u none d)
  top_corrupt (suc fuel) d e = rw (ne_eqb u none d, e)

  pub top_on : (fuel k : ℕ) → fuel ≡ suc k → u ≢ none → is_row n (row_of f m) u ≡ true
      → top_from fuel f m n u top ≡ top_from k f m n (field_at f u upper_place) (pick (outgrown_at f u) u top)
  unfolding top_from
  top_on fuel k s d e = rw (s, ne_eqb u none d, e)

module _ (f : List ℕ) (u : ℕ) where
  pub raise_stop : (fuel : ℕ) → u ≡ none → raised fuel f u ≡ f
  unfolding raised
  raise_stop zero e = refl
  raise_stop (suc fuel) e = rw (eq-eqb u none e)

  pub raise_on : (fuel k : ℕ) → fuel ≡ suc k → u ≢ none → raised fuel f u ≡ raised k (raised_at f u) (field_at (raised_at f u) u upper_place)
  unfolding raised
  raise_on fuel k s d = rw (s, ne_eqb u none d)

  pub raise_end : (fuel : ℕ) → fuel ≡ 0 → raised fuel f u ≡ f
  unfolding raised
  raise_end fuel z = rw z
