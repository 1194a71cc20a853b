-- The cells of the table are those with the cell put.
use Rattle.asg_model.proofs.Common.{◌+◌, ◌*◌, ◌<◌, length, ◌∙◌, arith, div-mul-add, mod-mul-add, mul-add-lt, on_ok_weaker, with_cell, table_cells}
use Rattle.asg_model.proofs.EditedTables.{table_cells-put}
use Rattle.asg_model.proofs.cell_edits.put_in_whole.Goals as goal

pub returns-clause-put : goal.returns-clause-put
returns-clause-put c =
    let a = c.args in
    let n = a.columns in
    let firsts = a.firsts.now.items in
    let seconds = a.seconds.now.items in
    let below : a.place.0 * n + a.place.1 < length firsts = omega (arith, c.requires.table.whole, mul-add-lt a.place.0 n a.place.1 a.rows c.requires.row c.requires.col) in
    on_ok_weaker c.put_in_table.result
    (λ puts.
    table_cells-put n (a.place.0 * n + a.place.1) a.cell firsts seconds c.put_in_table.new.firsts.items c.put_in_table.new.seconds.items (omega (arith, c.requires.col)) below c.requires.range puts
    ∙ (λ i. with_cell (table_cells n firsts seconds) (div-mul-add a.place.0 n a.place.1 c.requires.col i, mod-mul-add a.place.0 n a.place.1 c.requires.col i) a.cell))
    c.put_in_table.ensures.put
