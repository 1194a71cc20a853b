use Rattle.asg_tokens.proofs.BlockCells.{number_cell}
use Rattle.asg_tokens.proofs.cell_blocks.cell_between.Goals as goal

pub returns-in_ok-first-clause-cell : goal.returns-in_ok-first-clause-cell
returns-in_ok-first-clause-cell c = number_cell c.in_ok-first.ensures.amount c.in_ok-first.ensures.space
