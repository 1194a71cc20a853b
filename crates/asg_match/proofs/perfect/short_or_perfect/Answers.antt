use Rattle.asg_match.proofs.Common.{IsDeficient-refutes}
use Rattle.asg_match.proofs.perfect.short_or_perfect.Goals as goal

pub returns : goal.returns
returns g c = IsDeficient-refutes (g.A.Allowed.allows c.args.allowed.now) (g.A.Allowed.side c.args.allowed.now)
