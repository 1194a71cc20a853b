-- Parts and dual variables, of their lists.
use Rattle.std.specs.Prelude.{◌≡◌, ℕ, ◌+◌, List}
use Rattle.asg_model.specs.declared.objectives.Objective.{Objective}
use Rattle.asg_model.specs.Problem.{Problem}
use Rattle.asg_dual_bounds.specs.Parts.{Part}
use Rattle.asg_dual_bounds.specs.Bounds.{Duals, IsRowGap, IsColumnGap}

-- the part of these lists
abbrev pub part_of : List ℕ → ℕ → List ℕ → Part
part_of columns row banned = record { columns = columns; row = row; banned = banned }

-- the dual variables of these lists
abbrev pub duals_of : List ℕ → List ℕ → ℕ → Duals
duals_of falls rises floor = record { falls = falls; rises = rises; floor = floor }

-- by so much more than the part's bound is a bound of the child by the answer and row k: what the
-- row's fall may be raised by and what the rise of its column may be lessened by
pub record IsChildGap (objective : Objective) (X : Problem) (part : Part) (answer : List ℕ) (k : ℕ)
    (duals : Duals) (gap : ℕ) : Type 0 where
  pub row_gap : ℕ
  pub column_gap : ℕ
  pub both : gap ≡ row_gap + column_gap
  pub row : IsRowGap objective X part answer k duals row_gap
  pub column : IsColumnGap objective X answer k duals column_gap
