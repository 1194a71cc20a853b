use Rattle.asg_algebra.proofs.BranchStarts.{IsRest-cleared, IsRestOf-cleared}
use Rattle.asg_algebra.proofs.laws.branch_law.Goals as goal

pub returns-clause-rest : goal.returns-clause-rest
returns-clause-rest g c side square index matching root keep below rest kept =
    IsRest-cleared (g.M.Ordered.monoid_of c.args.m.now) side square index matching root below rest keep kept

pub returns-clause-masked : goal.returns-clause-masked
returns-clause-masked g c reduced words matching root below rest kept =
    IsRestOf-cleared (g.M.Ordered.monoid_of c.args.m.now) reduced words matching root below rest kept
