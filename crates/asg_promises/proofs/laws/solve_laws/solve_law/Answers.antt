use Rattle.asg_promises.proofs.Common.{subst}
use Rattle.asg_promises.proofs.SolveLaws.{solve_nothing, solve_statuses, solve_too_large, solve_valid}
use Rattle.asg_promises.proofs.StageLaws.{AllShort, job_due}
use Rattle.asg_promises.proofs.laws.solve_laws.solve_law.Goals as goal

pub returns-clause-statuses : goal.returns-clause-statuses
returns-clause-statuses c = λ words told status text job is solves due.
    let own = job_due words told status text job is due in
    solve_statuses job own.0 status text solves own.2

pub returns-clause-valid : goal.returns-clause-valid
returns-clause-valid c = λ words told status text bytes job X choice shorts is solves found holds taken valid due.
    let own = job_due words told status text job is due in
    solve_valid job told own.0 status text bytes X choice (subst (AllShort told) is shorts) solves found holds taken valid own.1 own.2

pub returns-clause-nothing : goal.returns-clause-nothing
returns-clause-nothing c = λ words told status text bytes job X shorts is solves found holds taken no_valid due.
    let own = job_due words told status text job is due in
    solve_nothing job told own.0 status text bytes X (subst (AllShort told) is shorts) solves found holds taken no_valid own.1 own.2

pub returns-clause-too_large : goal.returns-clause-too_large
returns-clause-too_large c = λ words told status text bytes job X count shorts is solves found holds refuses due.
    let own = job_due words told status text job is due in
    solve_too_large job told own.0 status text bytes X count (subst (AllShort told) is shorts) solves found holds refuses own.1 own.2
