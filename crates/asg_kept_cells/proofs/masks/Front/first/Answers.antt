use Rattle.asg_kept_cells.proofs.Common.{refl, arith}
use Rattle.asg_kept_cells.proofs.masks.Front.first.Goals as goal

pub returns-clause-front : goal.returns-clause-front
returns-clause-front c X = record { row = omega arith; number = refl }
