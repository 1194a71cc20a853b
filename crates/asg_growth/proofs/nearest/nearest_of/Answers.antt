use Rattle.asg_growth.proofs.Common.{arith}
use Rattle.asg_growth.proofs.nearest.nearest_of.Goals as goal

pub nearer-requires-clause-column : goal.nearer-requires-clause-column
nearer-requires-clause-column g c = c.requires.found c.in-Some.column c.in-Some.is

pub nearer-requires-clause-matching : goal.nearer-requires-clause-matching
nearer-requires-clause-matching g c =
    let has = c.requires.found c.in-Some.column c.in-Some.is in omega (arith, has.within, c.requires.matching)
