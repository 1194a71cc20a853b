use Rattle.asg_dual_bounds.proofs.Common.{subst, IsValid}
use Rattle.asg_dual_bounds.proofs.PlainChoices.{columns_of, columns_from_valid, IsValid-from_answer, answer-from_valid}
use Rattle.asg_dual_bounds.proofs.laws.answers_law.Goals as goal

pub returns-clause-valid : goal.returns-clause-valid
returns-clause-valid c objective X columns plain is = IsValid-from_answer X plain objective columns is

pub returns-clause-every : goal.returns-clause-every
returns-clause-every c objective X f plain valid =
    let e = columns_from_valid X plain f valid in
    (columns_of f, e, answer-from_valid X plain objective (columns_of f) (subst (IsValid X) e valid))
