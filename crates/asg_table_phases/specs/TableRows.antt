-- The cells of a table and of the square of an instance, by a number for each row and each column.
use Rattle.std.specs.Prelude.{◌≡◌, ◌≢◌, ◌↔◌, ℕ, ℤ, pos, ◌+◌, ◌*◌, ◌^◌, ◌<◌, ◌≤◌, ◌+ℤ◌, ◌-ℤ◌, ◌≤ℤ◌, Bool, false, true, List, length, Option, Some, None, slice_index, slice_index_or}
use Rattle.asg_cell_tables.specs.LabelledCells.{has_corner, leaves_rows}
use Rattle.asg_phase_totals.specs.PhaseTotals.{Totals}
use Rattle.asg_model.specs.declared.objectives.Objective.{Objective}
use Rattle.asg_model.specs.declared.objectives.Objective.TheVariants.{Capped, Sum, SumMax, SumPair}
use Rattle.asg_model.specs.declared.parts.Cost.{Cost}
use Rattle.asg_model.specs.declared.parts.Place.{Place}
use Rattle.asg_model.specs.Limits.{most_columns, most_cost}
use Rattle.asg_model.specs.Live.{live_at}
use Rattle.asg_model.specs.Problem.{Problem}
use Rattle.asg_model.specs.Shapes.{square_side}
use Rattle.asg_model.specs.Instances.{IsCostInRange}
use Rattle.asg_model.specs.Table.{absent, table_cost}
use Rattle.asg_monoids.specs.BoundedSums.{narrow_top}
use Rattle.asg_monoids.specs.Entered.{sum_entered}
use Rattle.asg_square.specs.Cells.{square_cell}
use Rattle.asg_square.specs.Labels.{column_label, row_label}

-- no number is greater
abbrev pub AreWithin : ℕ → List ℕ → Type 0
AreWithin most numbers = (k : ℕ) → k < length numbers → slice_index numbers k ≤ most

-- each number is at most where sums in 64 bits stop
abbrev pub AreLow : List ℕ → Type 0
AreLow numbers = AreWithin narrow_top numbers

-- each number is at most where sums in 128 bits stop
abbrev pub AreWide : List ℕ → Type 0
AreWide numbers = AreWithin (2 ^ 120) numbers

-- the most as which a cost enters for an objective of sums
abbrev pub most_entered : Objective → ℕ
most_entered SumPair = 2 * most_cost * 2 ^ 42 + 2 * most_cost
most_entered _ = 2 * most_cost

-- up to where sums are looked at for the objective
abbrev pub bound_of : Objective → ℕ
bound_of SumPair = 2 ^ 120
bound_of _ = narrow_top

-- the cost is, as it enters and with so much more, at least the number
abbrev pub FitsCost : Objective → ℤ → ℕ → ℕ → Type 0
FitsCost Sum cost number raise = pos number ≤ℤ (cost +ℤ pos (raise + most_cost))
FitsCost SumMax cost number raise = pos number ≤ℤ (pos (raise + most_cost) -ℤ cost)
FitsCost (Capped cap) cost number raise = (number ≤ cap) × (pos number ≤ℤ (cost +ℤ pos raise))
FitsCost _ cost number raise = ⊥

-- the costs of a row from one column on and before another that are there are so by the numbers of
-- their columns
abbrev pub FitsCosts : Objective → List ℤ → List ℕ → ℕ → ℕ → ℕ → Type 0
FitsCosts objective costs columns raise from to = (k : ℕ) → from ≤ k → k < to
    → slice_index_or costs k absent ≢ absent
    → FitsCost objective (slice_index_or costs k absent) (slice_index columns k) raise

-- the pairs of a row that are there are, as they enter and with so much more, at least the numbers of
-- their columns
abbrev pub FitsPairs : List ℤ → List ℤ → List ℕ → ℕ → Type 0
FitsPairs firsts seconds columns raise = (k : ℕ) (cost : Cost) → k < length firsts
    → table_cost seconds k (slice_index_or firsts k absent) ≡ Some cost
    → IsCostInRange cost → slice_index columns k ≤ sum_entered SumPair cost + raise

-- each live cell of a row, as it enters, is with so much more at least the number of its column
abbrev pub FitsRow : Objective → Problem → List ℕ → ℕ → ℕ → Type 0
FitsRow objective X columns raise r = (k : ℕ) (cost : Cost)
    → live_at X r k ≡ Some cost → slice_index columns k ≤ sum_entered objective cost + raise

-- each row of the instance does so by its own number
abbrev pub FitsRows : Objective → Problem → List ℕ → List ℕ → Type 0
FitsRows objective X rows columns =
    (r : ℕ) → r < length X.rows → FitsRow objective X columns (slice_index rows r) r

-- the numbers of columns are at most those of a list in 64 bits
abbrev pub AreNarrowed : List ℕ → List ℕ → Type 0
AreNarrowed numbers narrow =
    (d : ℕ) → d < most_columns → slice_index numbers d ≤ slice_index narrow d

-- for each column of the instance a number that is at least those of its copies
abbrev pub AreTops : Problem → List ℕ → List ℕ → Type 0
AreTops X numbers tops = (k d : ℕ) → k < length numbers
    → column_label X k ≡ Some d → slice_index numbers k ≤ slice_index tops d

-- the columns of the square from this one on are copies of none
abbrev pub EndCopies : Problem → ℕ → Type 0
EndCopies X copies = (k : ℕ) → (column_label X k ≡ None) ↔ (copies ≤ k)

-- the cell is free, by the row that its square row stands for and the column that its square column
-- is a copy of
abbrev pub is_free_cell : Place → Option ℕ → Option ℕ → Bool
is_free_cell place (Some r) (Some d) = false
is_free_cell place (Some r) None = leaves_rows place
is_free_cell place None (Some d) = true
is_free_cell place None None = has_corner place

-- of two numbers the one for copies of columns, or the one for other columns
abbrev pub top_for : ℕ → ℕ → Option ℕ → ℕ
top_for of_copies of_extras (Some d) = of_copies
top_for of_copies of_extras None = of_extras

-- the number of a row is at least that of each column in which it has a free cell
abbrev pub FitFree : Problem → List ℕ → List ℕ → Type 0
FitFree X rows columns = (r k : ℕ) → r < length rows → k < length columns
    → is_free_cell X.place (row_label X r) (column_label X k) ≡ true
    → slice_index columns k ≤ slice_index rows r

-- each present cell of the square is with the number of its row at least that of its column
abbrev pub FitCells : Objective → Problem → List ℕ → List ℕ → Type 0
FitCells objective X rows columns = (r k x : ℕ) → r < square_side X → k < square_side X
    → square_cell X 0 (sum_entered objective) r k ≡ Some x
    → slice_index columns k ≤ x + slice_index rows r

-- the greatest entered cost with the sum of all stays within where sums are looked at, and each
-- present cell is with the number of its row at least that of its column
pub record FitTotals (objective : Objective) (X : Problem) (totals : Totals) : Type 0 where
  pub few : totals.sum + most_entered objective ≤ bound_of objective
  pub ends : FitCells objective X totals.rows totals.columns
