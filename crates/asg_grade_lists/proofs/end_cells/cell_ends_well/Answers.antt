use Rattle.asg_grade_lists.proofs.Common.{not, ap, ◌∙◌, cell_at}
use Rattle.asg_grade_lists.proofs.EndLemmas.{absent_ends, cell_ends}
use Rattle.asg_grade_lists.proofs.end_cells.cell_ends_well.Goals as goal

pub returns-then-value_ends_well : goal.returns-then-value_ends_well
returns-then-value_ends_well c = λ _.
    cell_ends c.args.grade c.args.row c.args.column c.args.value (cell_at c.args.square.now c.args.r c.args.k) c.requires.value
    (c.value_ends_well.ensures c.if-value_ends_well.true)

pub returns : goal.returns
returns c = λ none. absent_ends c.args.grade c.args.row c.args.column c.at.result (cell_at c.args.square.now c.args.r c.args.k) c.at.ensures (c.is_none.ensures ∙ ap not none)
