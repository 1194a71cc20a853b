use Rattle.asg_promises.proofs.RefusedCosts.{first_found, first_none, passes_none}
use Rattle.asg_promises.proofs.laws.refused_cost_law.Goals as goal

pub returns-clause-none : goal.returns-clause-none
returns-clause-none c = λ objective X. (passes_none objective X, first_none objective X)

pub returns-clause-first : goal.returns-clause-first
returns-clause-first c = λ objective X ids first. first_found objective X ids first
