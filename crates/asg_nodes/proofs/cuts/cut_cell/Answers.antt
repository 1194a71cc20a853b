use Rattle.asg_nodes.proofs.Common.{sym, subst, cuts_cell, LosesCells}
use Rattle.asg_nodes.proofs.CutLemmas.{loses_cell}
use Rattle.asg_nodes.proofs.cuts.cut_cell.Goals as goal

pub returns : goal.returns
returns g c =
    let Q = c.args.square.now in
    subst (LosesCells (cuts_cell c.args.row c.args.column) Q) (sym c.set.ensures)
    (loses_cell Q c.args.row c.args.column c.side.ensures.grid c.requires.row c.requires.column)
