use Rattle.asg_base_tests.proofs.SquareParts.{cells_within, parts_are}
use Rattle.asg_base_tests.proofs.mapped.in_map.Goals as goal

pub with-requires : goal.with-requires
with-requires c =
    let X = c.args.table.now in
    let cells = c.in_ok-cells.cells.entries in
    rw (c.in_ok-rows.ensures.items, c.in_ok-columns.ensures.items, c.rows.ensures.rows, c.columns.ensures.columns, c.place.ensures)
    (c.well_formed_law.ensures X.rows X.columns cells X.place (parts_are X c.rows.ensures.instance.well_formed) (cells_within X cells c.requires.rows c.requires.columns c.in_ok-cells.ensures))
