use Rattle.asg_kept.proofs.Common.{cell_at}
use Rattle.asg_kept.proofs.RowLemmas.{tells}
use Rattle.asg_kept.proofs.sums.DualSquareU64RowSquareNarrowSums.lesser.Goals as goal

pub returns : goal.returns
returns c =
    let Q = c.args.self.now.now in
    tells (cell_at Q c.args.row) Q.side c.row.result c.row.ensures c.args.keys.now c.args.sum c.args.number c.lesser.result c.requires.sum c.lesser.ensures
