-- Phases whose totals fit an instance are admitted from its square.
use Rattle.asg_table_phases.proofs.Common.{◌≡◌, ℕ, ◌<◌, ◌≤◌, List, length, Option, Some, ⊎_elim, subst, arith, IsInstance, Problem, square_side, Objective, bounded_sums, bounded_difference, sum_entered, AreTotals, CountAndRaise, EndAtLeast0, StayBelow, Totals, sum_of_steps, PhaseOf, AreAdmittedPhases, square_cell, FitTotals}
use Rattle.asg_values.specs.laws.LiveCells.{range_of_live}
use Rattle.asg_table_phases.specs.TableRows.{bound_of, most_entered}
use Rattle.asg_table_phases.proofs.RowCosts.{entered_few}
use Rattle.asg_table_phases.proofs.TableCells.{IsEntered, IsFree, cell_of}

-- what the one-pass law says
abbrev pub OnePass : Type 0
OnePass =
    (top side : ℕ) (phases : List (PhaseOf ℕ)) (square : ℕ → ℕ → Option ℕ)
    → sum_of_steps phases ≤ top
    → StayBelow top side phases square
    → EndAtLeast0 side phases square
    → CountAndRaise side phases
    → AreAdmittedPhases (bounded_sums top) bounded_difference side phases square

module _ (objective : Objective) (X : Problem) (instance : IsInstance X) where
  -- a present cell is at most the greatest entered cost
  cell_few : (r k x : ℕ) → square_cell X 0 (sum_entered objective) r k ≡ Some x → x ≤ most_entered objective
  cell_few r k x is =
      ⊎_elim
      (λ (cell : IsEntered X (sum_entered objective) r k x).
      let small = entered_few objective cell.cost (range_of_live X instance r cell.column cell.cost cell.live) in
      omega (arith, small, cell.is))
      (λ (cell : IsFree X 0 r k x). omega (arith, cell.is))
      (cell_of X 0 (sum_entered objective) r k x is)

  module _ (totals : Totals) (count : length totals.rows ≡ square_side X) (fit : FitTotals objective X totals) where
    -- they are admitted
    pub fit_admitted : OnePass → (top : ℕ) (phases : List (PhaseOf ℕ)) → bound_of objective ≤ top → AreTotals phases totals → AreAdmittedPhases (bounded_sums top) bounded_difference (square_side X) phases (square_cell X 0 (sum_entered objective))
    fit_admitted law top phases above are =
        law top (square_side X) phases (square_cell X 0 (sum_entered objective))
        (omega (arith, fit.few, are.sum, above))
        (λ r k x hr hk is.
        let small = cell_few r k x is in
        omega (arith, small, fit.few, are.sum, above))
        (λ r k x hr hk is.
        let row : r < length totals.rows = omega (arith, hr, count) in
        let column : k < length totals.rows = omega (arith, hk, count) in
        let fits = fit.ends r k x hr hk is in
        omega (arith, fits, are.rows r row, are.columns k column))
        (subst (λ n. CountAndRaise n phases) count are.right)
