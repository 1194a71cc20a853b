-- Absorbed cells.
use Rattle.std.proofs.Common.{ℕ, ◌<◌, is_some, ap}
use Rattle.asg_order.specs.Monoid.{Monoid}
use Rattle.asg_proof.specs.laws.Squares.{HasSide-cell_at}
use Rattle.asg_square.specs.Grid.{Grid, IsGrid, cell_at}
use Rattle.asg_growth.specs.Growing.{IsAbsorbed}

pub absorbed_within : {V : Type 0} (M : Monoid V) (index : V) (Q : Grid V) → IsGrid Q → (r k : ℕ) → IsAbsorbed M index (cell_at Q) r k → (r < Q.side) × (k < Q.side)
absorbed_within M index Q grid r k absorbed = HasSide-cell_at Q grid r k (ap is_some absorbed.there)
