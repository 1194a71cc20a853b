use Rattle.asg_promises.proofs.Common.{subst}
use Rattle.asg_promises.proofs.JudgeLaws.{judge_judged, judge_refused, judge_statuses, judge_unread}
use Rattle.asg_promises.proofs.StageLaws.{AllShort, job_due}
use Rattle.asg_promises.proofs.laws.edit_laws.judge_law.Goals as goal

pub returns-clause-statuses : goal.returns-clause-statuses
returns-clause-statuses c = λ words told status text script answer job is checks due.
    let own = job_due words told status text job is due in
    judge_statuses job own.0 status text script answer checks own.2

pub returns-clause-refused : goal.returns-clause-refused
returns-clause-refused c = λ words told status text script answer bytes says numbers job X shorts is checks found heard holds refuses due.
    let own = job_due words told status text job is due in
    judge_refused job told own.0 status text script answer bytes says X (subst (AllShort told) is shorts) checks found heard holds own.1 own.2
    numbers refuses

pub returns-clause-unread : goal.returns-clause-unread
returns-clause-unread c = λ words told status text script answer bytes says spoken job X lines shorts is checks found heard spelled holds follows not_many due.
    let own = job_due words told status text job is due in
    judge_unread job told own.0 status text script answer bytes says X (subst (AllShort told) is shorts) checks found heard holds own.1 own.2
    spoken lines spelled follows not_many

pub returns-clause-judged : goal.returns-clause-judged
returns-clause-judged c = λ words told status text script answer bytes says job X lines documents shorts is checks found heard spelled holds follows have_text count due.
    let own = job_due words told status text job is due in
    judge_judged job told own.0 status text script answer bytes says X (subst (AllShort told) is shorts) checks found heard holds own.1 own.2
    c.unique_reading.ensures.lists lines documents spelled follows have_text count
