use Rattle.asg_cell_tables.proofs.Common.{◌-◌, drop, None, ◌∙◌, arith, length-take}
use Rattle.asg_cell_tables.proofs.RowLemmas.{piece_labels}
use Rattle.asg_cell_tables.proofs.rows.labelling_of.Goals as goal

pub returns-then-end-columns : goal.returns-then-end-columns
returns-then-end-columns c = λ k h.
    let labels = c.args.columns.now.labels.now in
    let first = c.args.first in
    let count = c.args.end - first in
    let inside = length-take count (drop first labels) in
    let below = c.if-end-columns.true in
    piece_labels labels first count k None (omega (arith, h, inside)) ∙ c.args.columns.now.only _ (omega (arith, h, inside, below))
