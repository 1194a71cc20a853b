use Rattle.asg_check.specs.declared.document_forms.Form.TheVariants as forms
use Rattle.asg_promises.proofs.Common.{Done, Nothing, content_at}
use Rattle.asg_promises.proofs.BriefLaws.{best_line, none_line}
use Rattle.asg_promises.proofs.SolveLaws.{solved_told, unsolvable_told}
use Rattle.asg_promises.proofs.StageLaws.{job_due}
use Rattle.asg_promises.proofs.laws.brief_laws.brief_solve_law.Goals as goal

pub returns-clause-best : goal.returns-clause-best
returns-clause-best c = λ words told text job is brief solves due.
    let own = job_due words told Done text job is due in
    let found = solved_told job (λ bytes X holds. c.instance_law.ensures.instance words bytes job X is holds) told own.0 text solves own.1 own.2 in
    (content_at own.0 0, found.0, best_line job (content_at own.0 0) text brief found.1)

pub returns-clause-none : goal.returns-clause-none
returns-clause-none c = λ words told text job is brief solves due.
    let own = job_due words told Nothing text job is due in
    let found = unsolvable_told job (λ bytes X holds. c.instance_law.ensures.instance words bytes job X is holds) told own.0 text solves own.1 own.2 in
    (content_at own.0 0, found.0, none_line job forms.Solve (content_at own.0 0) text brief found.1)
