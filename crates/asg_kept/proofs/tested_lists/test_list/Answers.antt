use Rattle.asg_kept.proofs.Common.{arith}
use Rattle.asg_kept.proofs.tested_lists.test_list.Goals as goal

pub returns-in-Some : goal.returns-in-Some
returns-in-Some g c = λ is. (c.in-Some.ensures.told g.N.SumNumber.top (omega arith)).0 is
