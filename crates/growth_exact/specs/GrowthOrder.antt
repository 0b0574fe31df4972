-- The order of starts after a growth (01: "going down the path: at each path row first the row itself unless it is the apex, then its light children in
-- order of arrival"): on the table that a served growth leaves it is the order in which compressed siblings at and below the head start.
use Rattle.std.specs.Prelude.{◌≡◌, ◌≢◌, ℕ, ◌<◌}
use Rattle.table.specs.declared.state.State.{State}
use Rattle.table.specs.Parts.{Parts}
use Rattle.layer.specs.Layer.{Layer, upper, start}
use Rattle.layer.specs.Numbered.{Numbered}
use Rattle.table.proofs.Rules.{numbered}
use Rattle.growth_laws.specs.Growth.{Growth}
use Rattle.join_laws.specs.PathOrder.{Before}
use Rattle.join_laws.proofs.PathOrderLaws.{before_starts, starts_before}
use Rattle.join_laws.specs.Renumbered.{Below}
use Rattle.growth.specs.Growth.{Result}
use Rattle.growth_exact.specs.GrowthExact.{table_grown, GrownExactly}

-- x starts before y exactly when it comes before y in 01's order
pub record InOrder (d : Layer) (x y : ℕ) : Type 0 where
  pub starts : Before d x y → start d x < start d y
  pub before : start d x < start d y → Before d x y

module _ {c : ℕ} {p : Parts} {s : State} {g : Growth} {o : Result} (k : GrownExactly c p s g o) where
  after : Numbered (table_grown s o).layer
  after = numbered k.rules k.fits.most

  pub growth_order : (x y : ℕ) → x < (table_grown s o).layer.count → y < (table_grown s o).layer.count → Below (table_grown s o).layer k.head x
      → Below (table_grown s o).layer k.head y → x ≢ k.head → y ≢ k.head → upper (table_grown s o).layer x ≡ upper (table_grown s o).layer y → InOrder (table_grown s o).layer x y
  growth_order x y l j a b i m e = record {
    starts = before_starts after k.order l a i;
    before = starts_before after k.order x y l j a b i m e;
  }
