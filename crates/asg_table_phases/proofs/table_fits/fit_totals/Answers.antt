use Rattle.asg_table_phases.proofs.Common.{ℕ, List, subst, arith, FitCells}
use Rattle.asg_table_phases.proofs.table_fits.fit_totals.Goals as goal

pub returns : goal.returns
returns c = λ yes.
    let X = c.args.inst.now in
    let o = c.args.objective in
    let totals = c.args.totals.now in
    record {
      few = omega (arith, c.if-sum-most_sum.false, c.sum.ensures, c.most_sum.ensures);
      ends =
          subst (λ (xs : List ℕ). FitCells o X xs totals.columns) c.rows.ensures.rows
          (subst (λ (xs : List ℕ). FitCells o X c.rows.result.now xs) c.columns.ensures.columns
          (c.cells_fit.ensures yes));
    }
