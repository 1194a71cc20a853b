use Rattle.asg_grammar.proofs.Common.{Reads-line, IsLegible-signed}
use Rattle.asg_grammar.proofs.line_cursor.Lines.signed.Goals as goal

pub returns : goal.returns
returns c = Reads-line IsLegible-signed c.read.result (λ p r met. met) c.read.ensures
