use Rattle.asg_tokens.proofs.Common.{length, ap, arith, separates, length-pieces}
use Rattle.asg_tokens.proofs.pieces.count_pieces.Goals as goal

pub overflow_add-count : goal.overflow_add-count
overflow_add-count c =
    omega (arith, c.loop-piece.invariant, ap length c.in-Some.ensures.first, length-pieces (separates c.args.separators) c.args.text.now)
