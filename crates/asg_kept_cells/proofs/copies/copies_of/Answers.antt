use Rattle.asg_kept_cells.proofs.Common.{sym, subst, AreCopies}
use Rattle.asg_kept_cells.proofs.CopyLemmas.{copies_none}
use Rattle.asg_kept_cells.proofs.copies.copies_of.Goals as goal

pub returns-in-None : goal.returns-in-None
returns-in-None g c =
    let labels = c.args.square.now.column_labels in
    let side = c.args.square.now.side in
    subst (λ chosen. AreCopies labels side chosen (record { from = 0; to = 0 })) (sym c.in-None.is) (copies_none labels side)
