use Rattle.asg_kept_phases.proofs.Common.{untouched_same}
use Rattle.asg_kept_phases.proofs.laws.untouched_law.Goals as goal

pub returns : goal.returns
returns c X edit free enter r k is names untouched = untouched_same free enter X edit r k is names untouched
