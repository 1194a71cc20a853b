use Rattle.asg_commands.proofs.Common.{refl, Solved}
use Rattle.asg_commands.proofs.solve.best_reply.Goals as goal

pub returns : goal.returns
returns c = Solved c.requires.takes c.in_ok-text.ensures refl
