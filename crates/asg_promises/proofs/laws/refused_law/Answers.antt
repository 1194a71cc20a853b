use Rattle.asg_promises.proofs.Common.{asked_of}
use Rattle.asg_promises.proofs.StageLaws.{refused_only}
use Rattle.asg_promises.proofs.laws.refused_law.Goals as goal

pub returns : goal.returns
returns c = λ words told text due. refused_only (asked_of words) told due.0 text due.1 due.2
