use Rattle.asg_promises.proofs.Common.{subst, DueForAsked, Make}
use Rattle.asg_promises.specs.laws.MadeInstances.{generated_is_plain}
use Rattle.asg_text.specs.Formula.{generated_problem}
use Rattle.asg_promises.proofs.laws.make_laws.made_law.Goals as goal

pub returns-clause-due : goal.returns-clause-due
returns-clause-due c = λ words told status text seed side is due. subst (λ a. DueForAsked a due.0 status text) is due.2

pub returns-clause-read : goal.returns-clause-read
returns-clause-read c = λ words seed side is.
    let within = (c.request_law.ensures words (Make seed side) is).1 in
    c.rect_law.ensures.read (generated_problem seed side) (c.generated_law.ensures seed side within.0 within.1) (generated_is_plain seed side)
