use Rattle.asg_commands.proofs.Common.{refl, Unrankable}
use Rattle.asg_commands.proofs.rank.none_reply.Goals as goal

pub returns : goal.returns
returns c = Unrankable c.requires.few c.in_ok-text.ensures refl
