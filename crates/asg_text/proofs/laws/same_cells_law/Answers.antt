use Rattle.asg_text.proofs.SameCellsLaw.{same_instance}
use Rattle.asg_text.proofs.laws.same_cells_law.Goals as goal

pub returns : goal.returns
returns c = λ square rect same X. same_instance square rect same X
