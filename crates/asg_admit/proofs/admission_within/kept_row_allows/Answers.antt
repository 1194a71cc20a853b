use Rattle.asg_admit.proofs.Common.{arith, cell_at, masked_grid}
use Rattle.asg_square.specs.laws.Masks.{AreValuesOf-masked}
use Rattle.asg_admit.proofs.RowCells.{marks_inside, read_cell, row_from_cells, cells_from_row}
use Rattle.asg_admit.proofs.admission_within.kept_row_allows.Goals as goal

pub cells_allow-requires-clause-few : goal.cells_allow-requires-clause-few
cells_allow-requires-clause-few g c = omega (arith, c.side.ensures.grid.table.few, c.row_values-values.ensures.count)

pub cells_allow-requires-clause-inside : goal.cells_allow-requires-clause-inside
cells_allow-requires-clause-inside g c =
    let square = c.args.square.now in
    let kept = c.args.kept.now in
    let values = c.row_values-values.result.now in
    marks_inside (cell_at (masked_grid square kept) c.args.row) square.side values c.kept_words.new.kept (AreValuesOf-masked square kept c.args.row values c.row_values-values.ensures) c.kept_words.ensures

pub cells_allow-requires-clause-values : goal.cells_allow-requires-clause-values
cells_allow-requires-clause-values g c k x is =
    let square = c.args.square.now in
    let kept = c.args.kept.now in
    let values = c.row_values-values.result.now in
    let cell = read_cell (cell_at (masked_grid square kept) c.args.row) square.side values c.kept_words.new.kept (AreValuesOf-masked square kept c.args.row values c.row_values-values.ensures) c.kept_words.ensures k x is in
    c.requires.cells k cell.0 x cell.1

pub returns : goal.returns
returns g c =
    let m = c.args.m.now in
    let M = g.M.Ordered.monoid_of m in
    let d = g.M.DMonoid.difference m in
    let square = c.args.square.now in
    let kept = c.args.kept.now in
    let Q = masked_grid square kept in
    let values = c.row_values-values.result.now in
    let words = c.kept_words.new.kept in
    let are = AreValuesOf-masked square kept c.args.row values c.row_values-values.ensures in (
      λ ok. row_from_cells M d c.args.steps.now c.args.enter c.args.leaves.now Q c.args.row values words are c.kept_words.ensures c.requires.leaves (c.cells_allow.ensures.0 ok),
      λ all. c.cells_allow.ensures.1 (cells_from_row M d c.args.steps.now c.args.enter c.args.leaves.now Q c.args.row values words are c.kept_words.ensures c.requires.leaves all),
    )
