use Rattle.asg_cell_tables.proofs.Common.{refl, ◌∙◌, arith, table_at, is_present_at, labelled_cell, is_labelled_within, Whole}
use Rattle.asg_cell_tables.proofs.RowLemmas.{pieces_none, pieces_more, pieces_all}
use Rattle.asg_cell_tables.proofs.cells.fill_pieces.Goals as goal

pub loop-number-init : goal.loop-number-init
loop-number-init g c =
    let T = c.args.cells.now in
    record {
      side = refl;
      table = c.side-side.ensures.table;
      filled = λ entered enters. pieces_none T.side (table_at T) c.args.r c.args.columns.now.labels.now (labelled_cell c.args.inst.now c.args.free entered c.args.row);
      present = pieces_none T.side (is_present_at T) c.args.r c.args.columns.now.labels.now (is_labelled_within c.args.inst.now Whole c.args.row);
    }

pub returns-clause-row : goal.returns-clause-row
returns-clause-row g c entered enters =
    let T = c.args.cells.now in
    pieces_all T.side (table_at T) (table_at c.loop-number.cells) c.args.r c.loop-number.number c.args.columns.now.labels.now (labelled_cell c.args.inst.now c.args.free entered c.args.row)
    (omega (arith, c.loop-number-test.false, c.side-side.ensures.side, c.div_ceil-number-end.ensures))
    (c.loop-number.invariant.filled entered enters)

pub returns-clause-present : goal.returns-clause-present
returns-clause-present g c =
    let T = c.args.cells.now in
    pieces_all T.side (is_present_at T) (is_present_at c.loop-number.cells) c.args.r c.loop-number.number c.args.columns.now.labels.now (is_labelled_within c.args.inst.now Whole c.args.row)
    (omega (arith, c.loop-number-test.false, c.side-side.ensures.side, c.div_ceil-number-end.ensures))
    c.loop-number.invariant.present

pub loop-number-preserved : goal.loop-number-preserved
loop-number-preserved g c =
    let T = c.args.cells.now in
    let now = c.loop-number.cells in
    let after = c.fill_piece.new.self in
    let i = c.loop-number.invariant in
    record {
      side = c.fill_piece.ensures.side ∙ i.side;
      table = c.fill_piece.ensures.table;
      filled = λ entered enters.
          pieces_more T.side now.side (table_at T) (table_at now) (table_at after) c.args.r c.loop-number.number c.args.columns.now.labels.now (labelled_cell c.args.inst.now c.args.free entered c.args.row) i.side
          (c.fill_piece.ensures.piece entered enters) (i.filled entered enters);
      present =
          pieces_more T.side now.side (is_present_at T) (is_present_at now) (is_present_at after) c.args.r c.loop-number.number c.args.columns.now.labels.now (is_labelled_within c.args.inst.now Whole c.args.row) i.side
          c.fill_piece.ensures.present i.present;
    }
