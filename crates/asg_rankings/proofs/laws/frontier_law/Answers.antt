use Rattle.asg_rankings.specs.laws.FrontierSteps.{frontier_after, least_best}
use Rattle.asg_rankings.proofs.laws.frontier_law.Goals as goal

pub returns-clause-after : goal.returns-clause-after
returns-clause-after g c = frontier_after

pub returns-clause-best : goal.returns-clause-best
returns-clause-best g c worth X given is_open part bound n f h frontier least valid is values worths valid_h other =
    let m = c.args.m.now in
    least_best (g.M.Ordered.monoid_of m) (g.met.M.Ordered.laws m) worth X given is_open part bound n f frontier least valid is values worths h valid_h other
