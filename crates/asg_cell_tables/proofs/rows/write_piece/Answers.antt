use Rattle.asg_cell_tables.proofs.Common.{◌≡◌, ◌+◌, ◌-◌, length, get_or, drop, None, sym, ap, ◌∙◌, subst, arith, length-drop, length-take, ArePieceOf, AreBitsOf, labelled_cell, is_labelled_within, Whole}
use Rattle.asg_cell_tables.proofs.RowLemmas.{written_back}
use Rattle.asg_cell_tables.proofs.rows.write_piece.Goals as goal

pub returns-clause-present : goal.returns-clause-present
returns-clause-present g c =
    let old = c.args.values.now.items in
    let xs = c.as_mut_slice.result.now in
    let start = c.args.start in
    let count = length c.args.columns.now in
    subst (λ n. AreBitsOf n (λ k. is_labelled_within c.args.inst.now Whole c.args.row (get_or c.args.columns.now k None)) c.row_piece.result)
    (omega (arith, length-take (start + count - start) (drop start xs), length-drop start xs, ap length c.as_mut_slice.ensures.value, c.requires.within))
    c.row_piece.ensures.present

pub returns-clause-piece : goal.returns-clause-piece
returns-clause-piece g c =
    let old = c.args.values.now.items in
    let xs = c.as_mut_slice.result.now in
    let start = c.args.start in
    let count = length c.args.columns.now in
    let same : xs ≡ old = c.as_mut_slice.ensures.value in
    let part = c.row_piece.ensures.count in
    let size : length c.row_piece.new.values ≡ count = omega (arith, part, length-take (start + count - start) (drop start xs), length-drop start xs, ap length same, c.requires.within) in
    record {
      piece = c.row_piece.new.values;
      count_is = size;
      written = written_back c.args.values.now.len start count old xs c.row_piece.new.values same c.args.values.now.ok.0 size c.requires.within;
      holds = λ entered enters.
          subst (λ n. ArePieceOf n c.row_piece.new.values c.row_piece.result (λ k. labelled_cell c.args.inst.now c.args.free entered c.args.row (get_or c.args.columns.now k None))) (sym part ∙ size)
          (c.row_piece.ensures.cells entered enters);
    }
