use Rattle.asg_networks.proofs.Common.{sym, subst, IsPartInRange, short_fits}
use Rattle.asg_networks.proofs.ArcLines.{arc_said}
use Rattle.asg_networks.proofs.arc_lines.arc_line.Goals as goal

pub returns-clause-says : goal.returns-clause-says
returns-clause-says c =
    arc_said c.in_ok-from_blank.ensures c.in_ok-from_source.ensures c.in_ok-source.ensures c.in_ok-from_target.ensures c.in_ok-target.ensures c.in_ok-from_cost.ensures c.in_ok-cost.ensures c.in_ok-rest.ensures _ (short_fits c.in_ok-cost.ensures)

pub returns-clause-in_range : goal.returns-clause-in_range
returns-clause-in_range c = subst IsPartInRange (sym (short_fits c.in_ok-cost.ensures)) c.in_ok-cost.ensures.in_range
