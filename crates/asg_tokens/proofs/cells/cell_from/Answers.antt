use Rattle.asg_tokens.proofs.Common.{short_cell}
use Rattle.asg_tokens.proofs.cells.cell_from.Goals as goal

pub returns-in-Some : goal.returns-in-Some
returns-in-Some c = λ text place short. short_cell place text c.args.behind.now c.in-Some.rest.now c.args.first short c.in-Some.ensures
