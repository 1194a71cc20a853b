use Rattle.asg_kept_cells.proofs.Common.{◌+◌, ◌*◌, ◌<◌, ◌&&◌, get_or, is_some, sym, ap, ◌∙◌, subst, has_bit, is_bit_set, word_count, bit_in_row, is_and, cell_at}
use Rattle.asg_kept_cells.proofs.MetColumns.{kept_cell}
use Rattle.asg_kept_cells.proofs.hall_tests.kept_columns.Goals as goal

pub returns : goal.returns
returns g c k below =
    let Q = c.args.square.now in
    let kept = c.args.kept.now in
    let row = c.args.row in
    let number = c.args.number in
    let present = c.row_words-present.result.now in
    let bits = c.row-bits.result.now in
    is_and (get_or present number 0) (get_or bits number 0) k
    ∙ ap (λ b. b && is_bit_set (get_or bits number 0) k)
    (bit_in_row (λ j. is_some (cell_at Q row j)) Q.side present number k c.row_words-present.ensures c.requires.number below)
    ∙ ap (λ b. is_some (cell_at Q row (64 * number + k)) && b)
    (bit_in_row (has_bit kept row) kept.columns bits number k c.row-bits.ensures.words (subst (λ n. number < word_count n) (sym c.requires.size.columns) c.requires.number) below)
    ∙ kept_cell Q kept c.requires.size row (64 * number + k)
