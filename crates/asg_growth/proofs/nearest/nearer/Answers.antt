use Rattle.asg_growth.proofs.Common.{◌<◌, length, arith}
use Rattle.asg_growth.proofs.nearest.nearer.Given.{Over}
use Rattle.asg_growth.proofs.nearest.nearer.Goals.{In-Some}
use Rattle.asg_growth.proofs.nearest.nearer.Goals as goal

within : (g : Over) (c : In-Some g) → c.in-Some.other < length c.args.keys.now
within g c = let has = c.requires.former c.in-Some.other c.in-Some.is in has.within

pub offset_bounds-keys-other : goal.offset_bounds-keys-other
offset_bounds-keys-other g c = omega (arith, within g (goal.at.offset_bounds-keys-other g c).In-Some)

pub bounds-keys-other : goal.bounds-keys-other
bounds-keys-other g c = within g (goal.at.bounds-keys-other g c).In-Some
