use Rattle.asg_model.proofs.Common.{◌≡◌, ℕ, Some, get_or, pos, subst, arith, cost_at, Cost}
use Rattle.asg_model.proofs.CellLists.{each_found}
use Rattle.asg_model.proofs.cell_lists.cost_there.Goals as goal

pub returns : goal.returns
returns c =
    let cells = c.args.cells.now in
    let none : (ℕ × ℕ) × Cost = ((0, 0), record { a = pos 0; b = pos 0 }) in
    let cell = get_or cells c.args.place none in
    subst (λ r. cost_at cells r c.args.col ≡ Some cell.1) c.if-cell-row.false
    (subst (λ k. cost_at cells cell.0.0 k ≡ Some cell.1) c.if-cell-col.false
    (each_found cells c.requires c.args.place none (omega (arith, c.if-place-cells.false))))
