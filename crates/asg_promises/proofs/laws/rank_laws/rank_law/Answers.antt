use Rattle.asg_promises.proofs.Common.{subst}
use Rattle.asg_promises.proofs.RankLaws.{rank_nothing, rank_statuses, rank_too_much, rank_valid}
use Rattle.asg_promises.proofs.StageLaws.{AllShort, job_due}
use Rattle.asg_promises.proofs.laws.rank_laws.rank_law.Goals as goal

pub returns-clause-statuses : goal.returns-clause-statuses
returns-clause-statuses c = λ words told status text count job is ranks due.
    let own = job_due words told status text job is due in
    rank_statuses job own.0 status text count ranks own.2

pub returns-clause-valid : goal.returns-clause-valid
returns-clause-valid c = λ words told status text bytes count job X choice shorts is ranks found holds few valid due.
    let own = job_due words told status text job is due in
    rank_valid job told own.0 status text bytes count X choice (subst (AllShort told) is shorts) ranks found holds few valid own.1 own.2

pub returns-clause-nothing : goal.returns-clause-nothing
returns-clause-nothing c = λ words told status text bytes count job X shorts is ranks found holds few no_valid due.
    let own = job_due words told status text job is due in
    rank_nothing job told own.0 status text bytes count X (subst (AllShort told) is shorts) ranks found holds few no_valid own.1 own.2

pub returns-clause-too_much : goal.returns-clause-too_much
returns-clause-too_much c = λ words told status text bytes count job X shorts is ranks found holds over due.
    let own = job_due words told status text job is due in
    rank_too_much job told own.0 status text bytes count X (subst (AllShort told) is shorts) ranks found holds over own.1 own.2
