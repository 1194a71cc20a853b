use Rattle.asg_levels.proofs.Common.{Fits-lt-pow, is_without}
use Rattle.asg_levels.proofs.next_step.without.Goals as goal

pub returns : goal.returns
returns c k h = is_without c.args.word c.args.bits k (Fits-lt-pow c.ranges.bits) h
