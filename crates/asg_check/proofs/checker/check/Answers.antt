use Rattle.asg_check.proofs.KnownTold.{none_known}
use Rattle.asg_check.proofs.checker.check.Goals as goal

pub check_known-requires-clause-known : goal.check_known-requires-clause-known
check_known-requires-clause-known c = none_known c.args.objective c.args.inst.now
