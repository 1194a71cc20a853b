use Rattle.asg_table_phases.proofs.Common.{◌≡◌, ◌<◌, ◌≤◌, true, slice_index, sym, subst, ⊎_elim, arith, cases_lt, column_label, row_label, is_free_cell}
use Rattle.asg_table_phases.proofs.ColumnCopies.{within_top}
use Rattle.asg_table_phases.proofs.column_tops.free_cells_fit.Goals as goal

pub rows-preserved : goal.rows-preserved
rows-preserved c = λ r k within below free.
    ⊎_elim
    (λ (before : r < c.rows.row). c.rows.invariant r k before below free)
    (λ (from : c.rows.row ≤ r).
    let X = c.args.inst.now in
    let columns = c.args.columns.now in
    let here : r ≡ c.rows.row = omega (arith, from, within) in
    let top = within_top X columns c.args.copies c.top_between-of_copies.result c.top_between-of_extras.result c.requires.copies c.top_between-of_copies.ensures c.top_between-of_extras.ensures k below in
    let row = c.free_top.ensures (column_label X k) (subst (λ n. is_free_cell X.place (row_label X n) (column_label X k) ≡ true) here free) in
    subst (λ n. slice_index columns k ≤ slice_index c.args.rows.now n) (sym here) (omega (arith, top, row)))
    (cases_lt r c.rows.row)
