use Rattle.asg_answers.proofs.Common.{◌≡◌, ◌++◌, cells_by_id}
use Rattle.asg_answers.proofs.ChosenCells.{cells_from}
use Rattle.asg_answers.proofs.documents.cells_by_id.Given as goal

-- the cells so far and those of the rows from here on are all the cells
abbrev pub invariant-loop-place : goal.invariant-loop-place
invariant-loop-place l = l.cells.items ++ cells_from l.inst l.choice l.place ≡ cells_by_id l.inst l.choice
