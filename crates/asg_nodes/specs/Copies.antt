-- The copies of a chosen column.
use Rattle.std.specs.Prelude.{◌≡◌, ℕ, ◌≤◌, nat_lt, Bool, false, Option}
use Rattle.std.specs.Option.{option_map_or}
use Rattle.asg_model.specs.Counts.{total_capacity}
use Rattle.asg_model.specs.Problem.{Problem}
use Rattle.asg_model.specs.ValidChoice.{takes}
use Rattle.asg_bit_rows.specs.BitTable.{is_from_to}
use Rattle.asg_square.specs.Labels.{column_label}
use Rattle.asg_nodes.specs.declared.copies.Run.{Run}

-- a column of the square with this label is a copy of a column before this one
abbrev pub is_before : ℕ → Option ℕ → Bool
is_before d label = option_map_or (λ e. nat_lt e d) label false

-- a column of the square with this label is a copy of the chosen column
abbrev pub is_copy_of : Option ℕ → Option ℕ → Bool
is_copy_of chosen label = option_map_or (λ e. takes e chosen) label false

-- these columns of the square are the copies of the chosen column
pub record IsRunOf (X : Problem) (chosen : Option ℕ) (run : Run) : Type 0 where
  pub order : run.from ≤ run.to
  pub within : run.to ≤ total_capacity X
  pub each : (k : ℕ) → is_from_to run.from run.to k ≡ is_copy_of chosen (column_label X k)
