use Rattle.asg_algebra.proofs.Common.{arith}
use Rattle.asg_algebra.proofs.line_steps.is_counted.Goals as goal

pub returns : goal.returns
returns c = λ counted. omega (arith, c.if-entered-staying.false, c.entered.ensures.count, c.staying.ensures.count)
