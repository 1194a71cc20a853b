-- The memory of a desk before it has a bench.
use Rattle.std.specs.Prelude.{◌≡◌, ◌<◌, ◌≤◌, true, length, vec_len}
use Rattle.asg_square.specs.Grid.{Grid}
use Rattle.asg_rank.specs.declared.desks.DeskMemory.{DeskMemory}
use Rattle.asg_nodes.specs.Cuts.{AreBitsFor}

-- a copy of a square with all bits set, and the memory of a solver over its side
pub record IsDeskMemory {V : Type 0} (Q : Grid V) (memory : DeskMemory V) : Type 0 where
  pub copy : memory.copy.0.now ≡ Q
  pub bits : AreBitsFor Q.side (λ _ _. true) memory.copy.1
  pub trial : length memory.trial.0 ≡ Q.side
  pub steps : Q.side < vec_len memory.trial.1
  pub columns : vec_len memory.columns.0 ≡ Q.side
  pub ids : 1001 ≤ vec_len memory.columns.1
