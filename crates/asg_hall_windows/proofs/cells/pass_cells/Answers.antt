use Rattle.asg_hall_windows.proofs.Common.{◌≡◌, ◌<◌, ◌≤◌, sym, subst, ⊎_elim, arith, cases_lt, IsRowPassed}
use Rattle.asg_hall_windows.proofs.CellLemmas.{row_passed_on}
use Rattle.asg_hall_windows.proofs.MarkLemmas.{keeps_both}
use Rattle.asg_hall_windows.proofs.cells.pass_cells.Goals as goal

pub loop-row-preserved : goal.loop-row-preserved
loop-row-preserved c =
    let X = c.args.inst.now in
    let stretches = c.args.table.now.stretches.items in
    let named = c.args.named.now in
    let row = c.loop-row.row in
    let before = c.loop-row.reached in
    let after = c.pass_row.new.reached in
    let kept = c.pass_row.ensures.kept in
    record {
      kept = keeps_both c.args.reached.now before after c.loop-row.invariant.kept kept;
      passed = λ r below.
          ⊎_elim
          (λ (early : r < row). row_passed_on X stretches named before after r kept (c.loop-row.invariant.passed r early))
          (λ (late : row ≤ r).
          let at : r ≡ row = omega (arith, late, below) in
          subst (IsRowPassed X stretches named after) (sym at) (c.pass_row.ensures.passed c.if-not-pass_row.false))
          (cases_lt r row);
    }
