use Rattle.asg_promises.proofs.Common.{subst}
use Rattle.asg_promises.proofs.CheckLaws.{check_judged, check_statuses, check_unread}
use Rattle.asg_promises.proofs.StageLaws.{AllShort, job_due}
use Rattle.asg_promises.proofs.laws.check_laws.check_law.Goals as goal

pub returns-clause-statuses : goal.returns-clause-statuses
returns-clause-statuses c = λ words told status text answer count job is checks due.
    let own = job_due words told status text job is due in
    check_statuses job own.0 status text answer count checks own.2

pub returns-clause-unread : goal.returns-clause-unread
returns-clause-unread c = λ words told status text answer bytes spoken count job X shorts is checks found heard spelled not_one due.
    let own = job_due words told status text job is due in
    check_unread job told own.0 status text answer bytes spoken count X (subst (AllShort told) is shorts) checks found heard spelled not_one own.1 own.2

pub returns-clause-judged : goal.returns-clause-judged
returns-clause-judged c = λ words told status text answer bytes count job X document shorts is checks found heard spelled has_text due.
    let own = job_due words told status text job is due in
    check_judged c.unique_reading.ensures.lists job told own.0 status text answer bytes count X document (subst (AllShort told) is shorts) checks found heard spelled has_text own.1 own.2
