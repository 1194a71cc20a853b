use Rattle.asg_cell_tables.proofs.Common.{get_or, is_some, None, arith}
use Rattle.asg_cell_tables.proofs.PieceLemmas.{bits_more}
use Rattle.asg_cell_tables.proofs.piece_words.labelled_bits.Goals as goal

pub loop-k-preserved : goal.loop-k-preserved
loop-k-preserved c =
    bits_more c.loop-k.word c.loop-k.k (λ k. is_some (get_or c.args.columns.now k None)) c.is_some.result c.from.result (omega (arith, c.loop-k-test.true, c.requires)) c.is_some.ensures c.from.ensures c.loop-k.invariant
