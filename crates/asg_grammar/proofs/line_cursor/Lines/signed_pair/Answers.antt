use Rattle.asg_grammar.proofs.Common.{IsLegible-signed_pair, Reads-line}
use Rattle.asg_grammar.proofs.line_cursor.Lines.signed_pair.Goals as goal

pub returns : goal.returns
returns c = Reads-line IsLegible-signed_pair c.read.result (λ p r met. met) c.read.ensures
