use Rattle.asg_hall_windows.proofs.Common.{◌%◌, arith}
use Rattle.asg_hall_windows.proofs.spans.high_bits.Goals as goal

pub returns : goal.returns
returns c w below word = (c.first_bits.ensures (w % 64)).1 (omega (arith, below, word), omega arith)
