use Rattle.asg_hall_windows.proofs.Common.{arith, w64}
use Rattle.asg_model.proofs.Kit.{bit_at_not, bit_at-lt}
use Rattle.asg_hall_windows.proofs.spans.other_bits.Goals as goal

pub returns : goal.returns
returns c k within none =
    let turned = bit_at_not w64 c.args.bits k (omega arith) within in
    let low = bit_at-lt c.args.bits k in
    omega (arith, turned, low, none)
