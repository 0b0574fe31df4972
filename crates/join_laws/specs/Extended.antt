-- One row more, which stands alone.
use Rattle.std.specs.Prelude.{◌≡◌, suc, eqb}
use Rattle.layer.specs.Layer.{Layer}
use Rattle.join_laws.specs.Lone.{Parted}

-- d is t and one row more, which stands alone
pub record Extended (t d : Layer) : Type 0 where
  pub count : d.count ≡ suc t.count
  pub parted : Parted t d (λ x. eqb x t.count)
