use Rattle.asg_thresh.proofs.Common.{arith}
use Rattle.asg_thresh.proofs.WordLemmas.{MarksUpTo-words}
use Rattle.asg_thresh.proofs.marked_cells.mark_words.Goals as goal

pub returns-clause-cells : goal.returns-clause-cells
returns-clause-cells c =
    let inv = c.loop-place.invariant in
    MarksUpTo-words c.args.grades.now c.args.side c.args.limit c.loop-place.words.items (λ i h. inv.done i (omega (arith, h, inv.end)))
