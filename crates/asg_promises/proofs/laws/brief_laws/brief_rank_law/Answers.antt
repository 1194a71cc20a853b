use Rattle.asg_check.specs.declared.document_forms.Form.TheVariants as forms
use Rattle.asg_promises.proofs.Common.{Done, Nothing, content_at}
use Rattle.asg_promises.proofs.BriefLaws.{none_line, ranked_line}
use Rattle.asg_promises.proofs.RankLaws.{ranked_told, unrankable_told}
use Rattle.asg_promises.proofs.StageLaws.{job_due}
use Rattle.asg_promises.proofs.laws.brief_laws.brief_rank_law.Goals as goal

pub returns-clause-ranked : goal.returns-clause-ranked
returns-clause-ranked c = λ words told text count job is brief ranks due.
    let own = job_due words told Done text job is due in
    let found = ranked_told job count (λ bytes X holds. c.instance_law.ensures.instance words bytes job X is holds) told own.0 text ranks own.1 own.2 in
    (content_at own.0 0, found.0, ranked_line job count (content_at own.0 0) text brief found.1)

pub returns-clause-none : goal.returns-clause-none
returns-clause-none c = λ words told text count job is brief ranks due.
    let own = job_due words told Nothing text job is due in
    let found = unrankable_told job count (λ bytes X holds. c.instance_law.ensures.instance words bytes job X is holds) told own.0 text ranks own.1 own.2 in
    (content_at own.0 0, found.0, none_line job (forms.Rank count) (content_at own.0 0) text brief found.1)
