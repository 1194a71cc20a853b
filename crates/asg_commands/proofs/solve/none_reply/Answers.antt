use Rattle.asg_commands.proofs.Common.{refl, Unsolvable}
use Rattle.asg_commands.proofs.solve.none_reply.Goals as goal

pub returns : goal.returns
returns c = Unsolvable c.requires.takes c.in_ok-text.ensures refl
