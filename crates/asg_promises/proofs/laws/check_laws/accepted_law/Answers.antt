use Rattle.asg_check.specs.declared.document_forms.Form.TheVariants.{Solve}
use Rattle.asg_promises.proofs.AcceptedLaws.{accepted_later, certified-from_solved, certified-from_unsolvable}
use Rattle.asg_promises.proofs.StageLaws.{job_due}
use Rattle.asg_promises.proofs.laws.check_laws.accepted_law.Goals as goal

pub returns-clause-solved : goal.returns-clause-solved
returns-clause-solved c = λ job other bytes text alike solved. certified-from_solved job other bytes text alike solved

pub returns-clause-unsolvable : goal.returns-clause-unsolvable
returns-clause-unsolvable c = λ job other bytes text alike solved. certified-from_unsolvable job other Solve bytes text alike solved

pub returns-clause-accepted : goal.returns-clause-accepted
returns-clause-accepted c = λ solving checking told later status text answer solve check is whole solves ends due is_check checks alike within same written.
    let own = job_due solving told status text solve is due in
    accepted_later c.solved_law.ensures.within told later solve check whole (λ bytes X holds. c.instance_law.ensures.instance solving bytes solve X is holds) status text answer own.0 solves ends within own.1 own.2
    checks alike same written checking is_check
