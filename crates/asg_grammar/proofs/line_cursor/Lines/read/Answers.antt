use Rattle.asg_grammar.proofs.Common.{refl}
use Rattle.asg_grammar.proofs.ReadLines.{ReadsLine-text}
use Rattle.asg_grammar.proofs.line_cursor.Lines.read.Goals as goal

pub returns-in_default : goal.returns-in_default
returns-in_default g c = ReadsLine-text _ refl c.in_ok-text.ensures (_, c.in_default.ensures, refl)
