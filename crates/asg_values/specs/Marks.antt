-- Marks of columns, and what a part of a row adds to them.
use Rattle.std.specs.Prelude.{◌≡◌, ℕ, ℤ, ◌<◌, ◌≤◌, Bool, false, ◌&&◌, ◌||◌, ◌==◌, List, int_le, slice_get, slice_index_or}
use Rattle.std.specs.Option.{option_map_or}
use Rattle.asg_model.specs.declared.parts.Column.{Column}
use Rattle.asg_model.specs.declared.parts.Cost.{Cost}
use Rattle.asg_model.specs.Table.{absent}

-- the cost in a column lies between two ends, both included
abbrev pub lies_between : List ℤ → ℤ → ℤ → ℕ → Bool
lies_between costs low high c = int_le low (slice_index_or costs c absent) && int_le (slice_index_or costs c absent) high

-- the same, and the column is open
abbrev pub meets : List Column → List ℤ → ℤ → ℤ → ℕ → Bool
meets columns costs low high c = option_map_or (λ column. column.usable) (slice_get columns c) false && lies_between costs low high c

-- a cell stands in the column at place c, which is open, and its cost lies between two ends
abbrev pub is_met_at : List Column → ℤ → ℤ → ℕ → (ℕ × ℕ) × Cost → Bool
is_met_at columns low high c cell =
    (cell.0.1 == c) && (option_map_or (λ column. column.usable) (slice_get columns c) false
    && (int_le low cell.1.a && int_le cell.1.a high))

-- marks before and after the columns from one to another were looked at: those that are met are set
pub record AreMarked (met : ℕ → Bool) (first end : ℕ) (marks after : List Bool) : Type 0 where
  pub inside : (c : ℕ) → first ≤ c → c < end → slice_index_or after c false ≡ (slice_index_or marks c false || met c)
  pub before : (c : ℕ) → c < first → slice_index_or after c false ≡ slice_index_or marks c false
  pub past : (c : ℕ) → end ≤ c → slice_index_or after c false ≡ slice_index_or marks c false
