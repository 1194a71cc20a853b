use Rattle.asg_admit.proofs.Common.{eqb, ap, shr_and_one}
use Rattle.asg_admit.proofs.admission.is_set.Goals as goal

pub returns : goal.returns
returns c = ap (λ n. eqb n 1) (shr_and_one c.args.word c.args.bit)
