use Rattle.asg_repair.proofs.Common.{IsAbsorbed, cell_at}
use Rattle.asg_repair.proofs.SessionLemmas.{pruned_fewer}
use Rattle.asg_repair.proofs.works.prune_work.Goals as goal

pub returns-clause-fewer : goal.returns-clause-fewer
returns-clause-fewer g c all =
    let M = g.M.Ordered.monoid_of c.args.m.now in
    let reduced = c.args.work.now.reduced in
    pruned_fewer (IsAbsorbed M reduced.index (cell_at reduced.now)) c.args.work.now.matching c.prune_absorbed.new.matching
    c.prune_absorbed.ensures.side c.prune_absorbed.ensures.kept all
