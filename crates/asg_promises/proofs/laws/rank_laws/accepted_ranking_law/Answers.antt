use Rattle.asg_check.specs.declared.document_forms.Form.TheVariants.{Rank}
use Rattle.asg_promises.proofs.AcceptedLaws.{accepted_ranking, certified-from_ranked, certified-from_unsolvable}
use Rattle.asg_promises.proofs.StageLaws.{job_due}
use Rattle.asg_promises.proofs.laws.rank_laws.accepted_ranking_law.Goals as goal

pub returns-clause-ranked : goal.returns-clause-ranked
returns-clause-ranked c = λ job other count bytes text alike ranked. certified-from_ranked job other count bytes text alike ranked

pub returns-clause-unrankable : goal.returns-clause-unrankable
returns-clause-unrankable c = λ job other count bytes text alike none. certified-from_unsolvable job other (Rank count) bytes text alike none

pub returns-clause-accepted : goal.returns-clause-accepted
returns-clause-accepted c = λ ranking checking told later status text answer count rank check is whole ranks ends due is_check checks alike within same written.
    let own = job_due ranking told status text rank is due in
    accepted_ranking c.solved_law.ensures.within told later rank check count whole (λ bytes X holds. c.instance_law.ensures.instance ranking bytes rank X is holds) status text answer own.0 ranks ends within own.1 own.2
    checks alike same written checking is_check
