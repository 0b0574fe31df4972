-- The order of links with the next row of each path last: they lead from a light child to each light child after it, and to the next row of the path.
use Rattle.std.specs.Prelude.{◌≡◌, ◌≢◌, ℕ}
use Rattle.std.proofs.Common.{◌∙◌, inl, inr}
use Rattle.std.proofs.Math.Decide.{ℕ_discrete}
use Rattle.laws.specs.Test.{says_true, says_false, says_eqb}
use Rattle.tree_laws.specs.Ancestor.{none, Anc, here, there}
use Rattle.tree_laws.specs.Siblings.{Kin, node, In, Links, Reads, stop, more}
use Rattle.tree_laws.specs.HeavyLast.{or_path, light_from, heavy_last}
use Rattle.tree_laws.specs.HeavyLastLaws.{from_none, from_path, from_light, next_light, after_path}

-- the siblings from w on, among the children of v, are read off the links
pub record ReadFrom (k : Links) (v w : ℕ) : Type 0 where
  pub some : w ≢ none
  pub kin : Kin
  pub reads : Reads k v w kin

pub in_read : {k : Links} {v c w : ℕ} {f : Kin} → Reads k v c f → In f w → ReadFrom k (k.parent w) w
in_read (stop _) i = elim i [ ]
in_read {c = c} (more {kids = kids} {rest} d e p q) (inl z) = rw (z, e) record { some = d; kin = node c kids rest; reads = more d e p q }
in_read (more d e p q) (inr (inl z)) = in_read p z
in_read (more d e p q) (inr (inr z)) = in_read q z

module _ (k : Links) (path : ℕ → ℕ) where
  or_some : (v c : ℕ) → path v ≢ none → or_path path v c ≢ none
  or_some v c d = elim (ℕ_discrete c none) [
    | yes e ↦ rw (says_true (says_eqb c none) e) d
    | no i ↦ rw (says_false (says_eqb c none) i) i
  ]

  -- from a child on there is a light child, or the next row of the path
  from_some : (v c : ℕ) → c ≢ none → light_from path k.next v c ≢ none
  from_some v c i = elim (ℕ_discrete c (path v)) [
    | yes e ↦ rw (from_path path k.next v c i e) (or_some v (k.next c) (λ z. i (e ∙ z)))
    | no o ↦ rw (from_light path k.next v c i o) i
  ]

  from_some_path : (v c : ℕ) → path v ≢ none → light_from path k.next v c ≢ none
  from_some_path v c d = elim (ℕ_discrete c none) [ yes e ↦ rw (from_none path k.next v c e) d | no i ↦ from_some v c i ]

  -- one link on, from a light child
  light_step : {v c x : ℕ} → k.parent c ≡ v → c ≢ path v → light_from path k.next v (k.next c) ≢ none
      → Anc (heavy_last k path).next x (light_from path k.next v (k.next c)) → Anc (heavy_last k path).next x c
  light_step {v} {c} {x} e z i a =
      let n : (heavy_last k path).next c ≢ none = rw (next_light k path e z) i in
      let r : Anc (heavy_last k path).next x ((heavy_last k path).next c) = rw (next_light k path e z) a in
      there n r

  light_from_lem : {v c x : ℕ} {f : Kin} → Reads k v c f → c ≢ none → x ≢ path v → Anc k.next x c
      → Anc (heavy_last k path).next x (light_from path k.next v c)
  light_from_lem {v} {c} r i o here = rw (from_light path k.next v c i o) here
  light_from_lem {v} {c} (stop e) i o (there n a) = absurd (i e)
  light_from_lem {v} {c} (more d e p q) i o (there n a) = elim (ℕ_discrete c (path v)) [
    | yes z ↦ rw (from_path path k.next v c i z, after_path k path (more d e p q) z) (light_from_lem q n o a)
    | no z ↦ rw (from_light path k.next v c i z) (light_step e z (from_some v (k.next c) n) (light_from_lem q n o a))
  ]

  path_from : {v c : ℕ} {f : Kin} → Reads k v c f → path v ≢ none → Anc (heavy_last k path).next (path v) (light_from path k.next v c)
  path_from {v} {c} (stop e) i = rw (from_none path k.next v c e) here
  path_from {v} {c} (more d e p q) i = elim (ℕ_discrete c (path v)) [
    | yes z ↦ rw (from_path path k.next v c d z, after_path k path (more d e p q) z) (path_from q i)
    | no z ↦ rw (from_light path k.next v c d z) (light_step e z (from_some_path v (k.next c) i) (path_from q i))
  ]

  module _ {v w : ℕ} (r : ReadFrom k v w) (light : w ≢ path v) where
    -- to a light child after it
    pub light_after : {x : ℕ} → x ≢ path v → Anc k.next x w → Anc (heavy_last k path).next x w
    light_after o a = rw (from_light path k.next v w r.some light) at (light_from_lem r.reads r.some o a)

    -- to the next row of the path
    pub path_after : path v ≢ none → Anc (heavy_last k path).next (path v) w
    path_after i = rw (from_light path k.next v w r.some light) at (path_from r.reads i)
