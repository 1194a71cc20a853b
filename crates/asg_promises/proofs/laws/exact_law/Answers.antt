use Rattle.asg_promises.proofs.Common.{subst, asked_of}
use Rattle.asg_promises.proofs.StageLaws.{AllShort, exact_usage, exact_too_long, exact_refused, job_due}
use Rattle.asg_promises.proofs.laws.exact_law.Goals as goal

pub returns-clause-usage : goal.returns-clause-usage
returns-clause-usage c = λ words told status text none due. exact_usage (asked_of words) due.0 status text none due.2

pub returns-clause-too_long : goal.returns-clause-too_long
returns-clause-too_long c = λ words told status text name bytes among found long due.
    exact_too_long (asked_of words) told due.0 status text name bytes among found long due.1 due.2

pub returns-clause-refused : goal.returns-clause-refused
returns-clause-refused c = λ words told status text bytes numbers job shorts is found none due.
    let own = job_due words told status text job is due in
    exact_refused job told own.0 status text bytes numbers (subst (AllShort told) is shorts) found none own.1 own.2
