use Rattle.asg_cell_tables.proofs.Common.{length, get_or, None, sym, subst, ArePieceOf, AreBitsOf, labelled_cell, is_labelled_within, Whole}
use Rattle.asg_cell_tables.proofs.CountedPieces.{counted_cells}
use Rattle.asg_cell_tables.proofs.pieces.row_piece.Goals as goal

pub returns-in-Some-clause-cells : goal.returns-in-Some-clause-cells
returns-in-Some-clause-cells g c entered enters =
    let X = c.args.inst.now in
    let columns = c.args.columns.now in
    let values = c.counted_piece.new.values in
    let count = length c.args.values.now in
    subst (λ row. ArePieceOf count values c.counted_piece.result (λ k. labelled_cell X c.args.free entered row (get_or columns k None))) (sym c.in-Some.is)
    (counted_cells X c.args.free entered c.in-Some.i columns values c.counted_piece.result count (c.counted_piece.ensures.values entered enters) c.counted_piece.ensures.present)

pub returns-in-None-clause-cells : goal.returns-in-None-clause-cells
returns-in-None-clause-cells g c entered enters =
    subst (λ row. ArePieceOf (length c.args.values.now) c.free_piece.new.values c.free_piece.result (λ k. labelled_cell c.args.inst.now c.args.free entered row (get_or c.args.columns.now k None))) (sym c.in-None.is)
    (c.free_piece.ensures.cells entered)

pub returns-in-Some-clause-present : goal.returns-in-Some-clause-present
returns-in-Some-clause-present g c =
    subst (λ row. AreBitsOf (length c.args.values.now) (λ k. is_labelled_within c.args.inst.now Whole row (get_or c.args.columns.now k None)) c.counted_piece.result) (sym c.in-Some.is)
    c.counted_piece.ensures.present

pub returns-in-None-clause-present : goal.returns-in-None-clause-present
returns-in-None-clause-present g c =
    subst (λ row. AreBitsOf (length c.args.values.now) (λ k. is_labelled_within c.args.inst.now Whole row (get_or c.args.columns.now k None)) c.free_piece.result) (sym c.in-None.is)
    c.free_piece.ensures.present
