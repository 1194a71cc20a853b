use Rattle.asg_rank.proofs.CountingLaw.{few_valid}
use Rattle.asg_rank.proofs.rooms.counting_law.Goals as goal

pub returns : goal.returns
returns c X choices all valid apart = few_valid X all choices valid apart
