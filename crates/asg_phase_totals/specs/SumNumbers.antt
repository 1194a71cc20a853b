-- Phases and squares whose steps and cells are numbers of a machine.
use Rattle.std.specs.Prelude.{ℕ, List, Option}
use Rattle.asg_proof.specs.Phases.{PhaseOf, phase_of}
use Rattle.asg_square.specs.Grid.{Grid}
use Rattle.asg_admit.specs.declared.reduced.Reduced.{Reduced}

-- a phase with the numbers of its steps
abbrev pub numbered : {V : Type 0} → (List V → List ℕ) → PhaseOf V → PhaseOf ℕ
numbered numbers phase = phase_of (numbers phase.steps) phase.enters phase.leaves

-- a square with the numbers of its cells
abbrev pub numbered_grid : {V : Type 0} → (List (Option V) → List (Option ℕ)) → Grid V → Grid ℕ
numbered_grid cells Q = record {
  side = Q.side;
  rows = Q.rows;
  row_labels = Q.row_labels;
  column_labels = Q.column_labels;
  cells = cells Q.cells;
}

-- a reduced square with the numbers of its cells and of its index
abbrev pub numbered_square : {V : Type 0} → (V → ℕ) → (List (Option V) → List (Option ℕ)) → Reduced V → Reduced ℕ
numbered_square number cells reduced =
    record { now = numbered_grid cells reduced.now; index = number reduced.index }
