use Rattle.asg_promises.proofs.StageLaws.{asked_answer, short_answer}
use Rattle.asg_promises.proofs.laws.answer_law.Goals as goal

pub returns-clause-answers : goal.returns-clause-answers
returns-clause-answers c = asked_answer

pub returns-clause-short : goal.returns-clause-short
returns-clause-short c = short_answer
