use Rattle.asg_proof.proofs.CutPhases.{cut_phases}
use Rattle.asg_proof.proofs.laws.sums.cut_law.Goals as goal

pub returns : goal.returns
returns c = cut_phases
