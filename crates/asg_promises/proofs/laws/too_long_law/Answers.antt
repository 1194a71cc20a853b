use Rattle.asg_promises.proofs.Common.{asked_of}
use Rattle.asg_promises.proofs.StageLaws.{too_long_only}
use Rattle.asg_promises.proofs.laws.too_long_law.Goals as goal

pub returns : goal.returns
returns c = λ words told text due. too_long_only (asked_of words) told due.0 text due.1 due.2
