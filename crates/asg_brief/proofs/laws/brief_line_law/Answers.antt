use Rattle.asg_brief.proofs.LineTexts.{line_once, lines_once, ranked_once}
use Rattle.asg_brief.proofs.laws.brief_line_law.Goals as goal

pub returns-clause-instance : goal.returns-clause-instance
returns-clause-instance c = λ objective X line other told again. line_once objective X line other told again

pub returns-clause-instances : goal.returns-clause-instances
returns-clause-instances c = λ objective instances text other told again. lines_once objective instances text other told again

pub returns-clause-ranked : goal.returns-clause-ranked
returns-clause-ranked c = λ objective X count line other told again. ranked_once objective X count line other told again
