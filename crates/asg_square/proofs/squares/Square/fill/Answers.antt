use Rattle.asg_square.proofs.Common.{◌≡◌, map, length, sym, ap, ◌∙◌, subst, arith, range_with_len, table_at, is_present_at, AreFilled, labelled_cell, is_labelled_within, square_side, Whole, Grid, row_label, column_label, rows_within}
use Rattle.asg_square.proofs.SquareFilling.{has_cells, has_presence}
use Rattle.asg_square.proofs.squares.Square.fill.Goals as goal

pub invariant_of-self : goal.invariant_of-self
invariant_of-self g c =
    let X = c.args.inst.now in
    let side : c.self.inside.cells.side ≡ square_side X = ap (λ q. q.side) c.self.view_is ∙ c.requires.side in
    let within = rows_within X c.rows.ensures.instance.well_formed.place_in_range in
    let rows = ap length c.rows.ensures.rows in
    let same = c.fill_cells.ensures.side in
    record {
      row_count = c.fill_row_labels.ensures.count ∙ c.self.invariant.row_count ∙ sym same;
      column_count = c.fill_column_labels.ensures.count ∙ c.self.invariant.column_count ∙ sym same;
      rows_within = omega (arith, side, within, rows, same);
      table = c.fill_cells.ensures.table;
    }

pub returns-clause-labels : goal.returns-clause-labels
returns-clause-labels g c =
    let X = c.args.inst.now in
    let side : c.self.inside.cells.side ≡ square_side X = ap (λ q. q.side) c.self.view_is ∙ c.requires.side in
    record {
      side = c.fill_cells.ensures.side ∙ side;
      rows = ap length c.rows.ensures.rows;
      row_labels = c.fill_row_labels.ensures.labels ∙ ap (λ n. map (row_label X) (range_with_len 0 n)) (c.self.invariant.row_count ∙ side);
      column_labels = c.fill_column_labels.ensures.labels ∙ ap (λ n. map (column_label X) (range_with_len 0 n)) (c.self.invariant.column_count ∙ side);
    }

pub returns-clause-square : goal.returns-clause-square
returns-clause-square g c = λ entered enters.
    let X = c.args.inst.now in
    let cell = labelled_cell X c.args.free entered in
    let filled = c.fill_cells.ensures.cells entered enters in
    let Q : Grid g.row.V.Denot = record {
      side = c.fill_cells.new.cells.side;
      rows = length c.rows.result.now;
      row_labels = c.fill_row_labels.new.labels.items;
      column_labels = c.fill_column_labels.new.labels.items;
      cells = c.fill_cells.new.cells.cells;
    } in
    record {
      labels = returns-clause-labels g c;
      cells = has_cells X c.args.free entered Q (returns-clause-labels g c) c.fill_cells.ensures.table
          (subst (λ rows. AreFilled c.fill_cells.new.cells.side (table_at c.fill_cells.new.cells) rows c.fill_column_labels.new.labels.items cell) c.as_slice-rows.ensures.value
          (subst (λ columns. AreFilled c.fill_cells.new.cells.side (table_at c.fill_cells.new.cells) c.as_slice-rows.result.now columns cell) c.as_slice-columns.ensures.value filled));
    }

pub returns-clause-present : goal.returns-clause-present
returns-clause-present g c =
    let X = c.args.inst.now in
    let after = c.fill_cells.new.cells in
    let Q : Grid g.row.V.Denot = record {
      side = after.side;
      rows = length c.rows.result.now;
      row_labels = c.fill_row_labels.new.labels.items;
      column_labels = c.fill_column_labels.new.labels.items;
      cells = after.cells;
    } in
    has_presence X Q (returns-clause-labels g c) c.fill_cells.ensures.table
    (subst (λ rows. AreFilled after.side (is_present_at after) rows c.fill_column_labels.new.labels.items (is_labelled_within X Whole)) c.as_slice-rows.ensures.value
    (subst (λ columns. AreFilled after.side (is_present_at after) c.as_slice-rows.result.now columns (is_labelled_within X Whole)) c.as_slice-columns.ensures.value c.fill_cells.ensures.present))
