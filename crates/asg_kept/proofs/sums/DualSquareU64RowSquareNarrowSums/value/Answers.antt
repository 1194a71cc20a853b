use Rattle.asg_kept.proofs.Common.{cell_at}
use Rattle.asg_kept.proofs.RowLemmas.{cell_read}
use Rattle.asg_kept.proofs.sums.DualSquareU64RowSquareNarrowSums.value.Goals as goal

pub returns : goal.returns
returns c =
    let Q = c.args.self.now.now in
    cell_read (cell_at Q c.args.row) Q.side c.row.result c.row.ensures c.args.column c.value.result c.requires.column c.requires.present c.value.ensures
