use Rattle.asg_kept_cells.proofs.Common.{Fits-lt-pow, is_without}
use Rattle.asg_kept_cells.proofs.taking_out.lacking.Goals as goal

pub returns : goal.returns
returns c k h = is_without c.args.word c.args.bits k (Fits-lt-pow c.ranges.bits) h
