use Rattle.asg_promises.proofs.Common.{⊎_elim, Done, Nothing, content_at}
use Rattle.asg_promises.proofs.DocumentLength.{HallLaws, length-solved, length-unsolvable}
use Rattle.asg_promises.proofs.SolveLaws.{solved_only, unsolvable_only}
use Rattle.asg_promises.proofs.StageLaws.{job_due}
use Rattle.asg_promises.proofs.laws.solve_laws.solved_law.Goals as goal

pub returns-clause-solved : goal.returns-clause-solved
returns-clause-solved c = λ words told text job is whole solves due.
    let own = job_due words told Done text job is due in
    let found = solved_only job whole (λ bytes X holds. c.instance_law.ensures.instance words bytes job X is holds) told own.0 text solves own.1 own.2 in
    (content_at own.0 0, found.0, found.1)

pub returns-clause-unsolvable : goal.returns-clause-unsolvable
returns-clause-unsolvable c = λ words told text job is whole solves due.
    let own = job_due words told Nothing text job is due in
    let found = unsolvable_only job whole (λ bytes X holds. c.instance_law.ensures.instance words bytes job X is holds) told own.0 text solves own.1 own.2 in
    (content_at own.0 0, found.0, found.1)

pub returns-clause-within : goal.returns-clause-within
returns-clause-within c = λ job form bytes text written.
    let laws : HallLaws = record { differ = c.hall_rows_law.ensures.different; are_counted = c.hall_rows_law.ensures.counted } in
    ⊎_elim (λ solved. length-solved laws job bytes text solved.0 solved.1) (λ solved. length-unsolvable laws job form bytes text solved) written
