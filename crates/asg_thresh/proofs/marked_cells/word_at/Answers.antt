use Rattle.asg_thresh.proofs.Common.{arith}
use Rattle.asg_thresh.proofs.WordLemmas.{IsWordUpTo-piece}
use Rattle.asg_thresh.proofs.marked_cells.word_at.Goals as goal

pub returns : goal.returns
returns c =
    IsWordUpTo-piece c.args.grades.now c.piece_of.result.now c.args.side c.args.limit c.args.place c.div_ceil-width.result c.bits_of.result
    (omega (arith, c.div_ceil-width.ensures)) c.piece_of.ensures.count c.piece_of.ensures.cells c.bits_of.ensures
