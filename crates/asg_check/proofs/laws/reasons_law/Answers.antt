use Rattle.asg_check.proofs.Certified.{certifies_exactly}
use Rattle.asg_check.proofs.laws.reasons_law.Goals as goal

pub returns : goal.returns
returns c = λ objective X form document i. certifies_exactly c.decision_law.ensures objective X i form document
