use Rattle.asg_kept.proofs.Common.{bit_at_ones}
use Rattle.asg_kept.proofs.kept_squares.RowSquare.lesser.Goals as goal

-- each bit is set
pub returns : goal.returns
returns g c k x h none = absurd (none (bit_at_ones 64 k h))
