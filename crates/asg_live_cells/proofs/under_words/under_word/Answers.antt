use Rattle.asg_live_cells.proofs.Common.{arith, cell_at}
use Rattle.asg_live_cells.proofs.UnderLemmas.{past_none, under_bits}
use Rattle.asg_live_cells.proofs.under_words.under_word.Goals as goal

pub returns : goal.returns
returns c k h =
    let Q = c.args.square.now in
    let row = c.args.row in
    let over = c.row_values.ensures.count in
    under_bits (cell_at Q row) Q.side c.args.limit c.args.number c.piece_bits.result k c.row_words.result.now c.row_values.result.now c.row_words.ensures c.row_values.ensures c.requires.number_below (λ d past. past_none Q row d past)
    (λ j low inside. c.piece_bits.ensures j low (omega (arith, over, inside))) h
