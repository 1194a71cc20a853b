use Rattle.asg_answers.proofs.Common.{take, AreAnswersOf}
use Rattle.asg_answers.proofs.documents.listed_answers.Given as goal

-- the answers so far are those of the choices so far
abbrev pub invariant-choices : goal.invariant-choices
invariant-choices l = AreAnswersOf l.objective l.inst (take l.place l.choices) l.answers.items
