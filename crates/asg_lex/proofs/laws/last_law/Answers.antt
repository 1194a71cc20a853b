use Rattle.asg_lex.proofs.Common.{left_last-is}
use Rattle.asg_lex.proofs.laws.last_law.Goals as goal

pub returns : goal.returns
returns c X before left levels = left_last-is X before left levels
