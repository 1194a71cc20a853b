use Rattle.asg_promises.proofs.Common.{asked_of}
use Rattle.asg_promises.proofs.StageLaws.{usage_only}
use Rattle.asg_promises.proofs.laws.usage_law.Goals as goal

pub returns : goal.returns
returns c = λ words told text due. usage_only (asked_of words) due.0 text due.2
