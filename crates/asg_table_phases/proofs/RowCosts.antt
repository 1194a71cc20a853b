-- The costs of a row as they stand in its table, and what they enter as.
use Rattle.asg_table_phases.specs.TableRows.{FitsCost, FitsPairs, most_entered}
use Rattle.asg_table_phases.proofs.Common.{◌≡◌, ℕ, ◌+◌, ◌≤◌, List, length, ℤ, slice_index_or, Some, arith, ints, slice_index, IsInstance, live_at, Problem, absent, AreRowParts, FitsCosts, FitsRow, Objective, Capped, Sum, SumMax, SumPair, Cost, sum_entered}
use Rattle.asg_values.specs.laws.LiveCells.{column_of_live, first_of_live, live_cell, range_of_live}
use Rattle.asg_values.specs.laws.RowCells.{live_cell_found}
use Rattle.asg_values.specs.laws.RowSlots.{first-at_live, present-at_live}
use Rattle.asg_model.specs.CellLists.{AreRowCells}
use Rattle.asg_model.specs.Instances.{IsCostInRange}
use Rattle.std.proofs.Common.{All, subst, sym, ◌∙◌}

module _ (X : Problem) (instance : IsInstance X) (r : ℕ) (firsts seconds : List ℤ) (parts : AreRowParts X r firsts seconds) (c : ℕ) (x : Cost) (live : live_at X r c ≡ Some x) where
  -- a cost that fits is as it enters, with so much more, at least the number
  entered_above : (objective : Objective) (n k : ℕ) → FitsCost objective (slice_index_or firsts c absent) n k → n ≤ sum_entered objective x + k
  entered_above Sum n k fits =
      let is = first-at_live X r firsts seconds parts c x live in
      let within = first_of_live X instance r c x live in
      omega (arith, ints, fits, is, within)
  entered_above SumMax n k fits =
      let is = first-at_live X r firsts seconds parts c x live in
      let within = first_of_live X instance r c x live in
      omega (arith, ints, fits, is, within)
  entered_above (Capped cap) n k fits =
      let is = first-at_live X r firsts seconds parts c x live in
      let within = first_of_live X instance r c x live in
      omega (arith, ints, fits.0, fits.1, is, within)
  entered_above _ n k fits = absurd fits

-- a row all whose costs fit does
pub row_by_costs : (objective : Objective) (X : Problem) → IsInstance X → (r : ℕ) (firsts seconds : List ℤ) → AreRowParts X r firsts seconds → (columns : List ℕ) (raise : ℕ)
    → FitsCosts objective firsts columns raise 0 (length firsts) → FitsRow objective X columns raise r
row_by_costs objective X instance r firsts seconds parts columns raise fit c x live =
    entered_above X instance r firsts seconds parts c x live objective (slice_index columns c) raise
    (fit c (omega arith) (omega (arith, column_of_live X r c x live, parts.whole)) (present-at_live X r firsts seconds parts c x live))

-- a row all whose cells fit does, where they stand in a list
entered_as : (X : Problem) → IsInstance X → (r c : ℕ) (x : Cost) → live_at X r c ≡ Some x → (objective : Objective) (n k : ℕ) → FitsCost objective x.a n k → n ≤ sum_entered objective x + k
entered_as X instance r c x live Sum n k fits =
    let within = first_of_live X instance r c x live in
    omega (arith, ints, fits, within)
entered_as X instance r c x live SumMax n k fits =
    let within = first_of_live X instance r c x live in
    omega (arith, ints, fits, within)
entered_as X instance r c x live (Capped cap) n k fits =
    let within = first_of_live X instance r c x live in
    omega (arith, ints, fits.0, fits.1, within)
entered_as X instance r c x live _ n k fits = absurd fits

pub row_by_cells : (objective : Objective) (X : Problem) → IsInstance X → (r : ℕ) (cells : List ((ℕ × ℕ) × Cost)) → AreRowCells X r cells → (columns : List ℕ) (raise : ℕ)
    → All (λ cell. FitsCost objective cell.1.a (slice_index columns cell.0.1) raise) cells → FitsRow objective X columns raise r
row_by_cells objective X instance r cells are columns raise fit c x live =
    let found = live_cell_found X r c x cells are live in
    entered_as X instance r c x live objective (slice_index columns c) raise
    (subst (λ (cell : (ℕ × ℕ) × Cost). FitsCost objective cell.1.a (slice_index columns cell.0.1) raise) (found.is ((r, c), x)) (fit found.at ((r, c), x) found.within))

-- a row all whose pairs fit does
pub row_by_pairs : (X : Problem) → IsInstance X → (r : ℕ) (firsts seconds : List ℤ) → AreRowParts X r firsts seconds → (columns : List ℕ) (raise : ℕ)
    → FitsPairs firsts seconds columns raise → FitsRow SumPair X columns raise r
row_by_pairs X instance r firsts seconds parts columns raise fit c x live =
    let there = column_of_live X r c x live in
    fit c x (omega (arith, there, parts.whole)) (sym (parts.costs c there) ∙ (live_cell X r c x live).2) (range_of_live X instance r c x live)

-- a cost in range enters as no more than that
pub entered_few : (objective : Objective) (x : Cost) → IsCostInRange x → sum_entered objective x ≤ most_entered objective
entered_few Sum x within = let a = within.a_in_range in omega (arith, ints, a)
entered_few SumMax x within = let a = within.a_in_range in omega (arith, ints, a)
entered_few (Capped cap) x within = let a = within.a_in_range in omega (arith, a)
entered_few SumPair x within = let a = within.a_in_range in let b = within.b_in_range in omega (arith, ints, a, b)
entered_few _ x within = omega arith
