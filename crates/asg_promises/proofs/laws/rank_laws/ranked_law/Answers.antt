use Rattle.asg_promises.proofs.Common.{Done, Nothing, content_at}
use Rattle.asg_promises.proofs.RankLaws.{ranked_only, unrankable_only}
use Rattle.asg_promises.proofs.StageLaws.{job_due}
use Rattle.asg_promises.proofs.laws.rank_laws.ranked_law.Goals as goal

pub returns-clause-ranked : goal.returns-clause-ranked
returns-clause-ranked c = λ words told text count job is whole ranks due.
    let own = job_due words told Done text job is due in
    let found = ranked_only job count whole (λ bytes X holds. c.instance_law.ensures.instance words bytes job X is holds) told own.0 text ranks own.1 own.2 in
    (content_at own.0 0, found.0, found.1)

pub returns-clause-unrankable : goal.returns-clause-unrankable
returns-clause-unrankable c = λ words told text count job is whole ranks due.
    let own = job_due words told Nothing text job is due in
    let found = unrankable_only job count whole (λ bytes X holds. c.instance_law.ensures.instance words bytes job X is holds) told own.0 text ranks own.1 own.2 in
    (content_at own.0 0, found.0, found.1)
