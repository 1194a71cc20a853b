use Rattle.asg_monoids.proofs.RankedLists.{compared}
use Rattle.asg_monoids.proofs.ranks.compare_ranks.Goals as goal

pub returns-clause-less : goal.returns-clause-less
returns-clause-less c = (compared c.cmp.result c.args.x.now c.args.y.now c.cmp.ensures).0

pub returns-clause-equal : goal.returns-clause-equal
returns-clause-equal c = (compared c.cmp.result c.args.x.now c.args.y.now c.cmp.ensures).1

pub returns-clause-greater : goal.returns-clause-greater
returns-clause-greater c = (compared c.cmp.result c.args.x.now c.args.y.now c.cmp.ensures).2
