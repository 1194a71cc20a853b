use Rattle.asg_grammar.proofs.Common.{Reads-line, IsLegible-positive}
use Rattle.asg_grammar.proofs.line_cursor.Lines.positive.Goals as goal

pub returns : goal.returns
returns c = Reads-line IsLegible-positive c.read.result (λ p r met. met) c.read.ensures
