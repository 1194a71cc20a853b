use Rattle.asg_check.proofs.Common.{Stands, reasons_in_order, No, one_verdict}
use Rattle.asg_check.proofs.Certified.{some_reason, yes_exactly}
use Rattle.asg_check.proofs.laws.one_reason.Goals as goal

pub returns-clause-none : goal.returns-clause-none
returns-clause-none c = λ objective X form document number place i w first.
    let yes = (yes_exactly c.decision_law.ensures objective X i form document (No number place) first.told).1 w in absurd (cc)

pub returns-clause-some : goal.returns-clause-some
returns-clause-some c = λ objective X form document i. some_reason c.decision_law.ensures objective X i form document

pub returns-clause-one : goal.returns-clause-one
returns-clause-one c = λ objective X form document number other place elsewhere here there.
    let same = one_verdict (Stands objective X form document) reasons_in_order (No number place) (No other elsewhere) here.told there.told in (cc, cc)
