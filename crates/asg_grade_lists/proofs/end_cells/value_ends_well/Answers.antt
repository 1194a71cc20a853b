use Rattle.asg_grade_lists.proofs.Common.{sym}
use Rattle.asg_grade_lists.proofs.EndLemmas.{none_ends, some_ends}
use Rattle.asg_grade_lists.proofs.end_cells.value_ends_well.Goals as goal

pub returns-in-Some : goal.returns-in-Some
returns-in-Some c = λ yes.
    some_ends c.args.grade c.args.row c.args.column c.args.value c.in-Some.amount (sym c.in-Some.ensures) (c.amount_ends_well.ensures.few yes) (c.amount_ends_well.ensures.ends yes)

pub returns-in-None : goal.returns-in-None
returns-in-None c = λ _. none_ends c.args.grade c.args.row c.args.column c.args.value (sym c.in-None.ensures)
