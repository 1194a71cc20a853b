use Rattle.asg_networks.proofs.TableFills.{IsFilled}
use Rattle.asg_networks.proofs.layouts.Layout.fill.Given as goal

-- the costs of the arcs so far stand in the table, and none of them repeats another at another cost
abbrev pub invariant-loop-link : goal.invariant-loop-link
invariant-loop-link l =
    IsFilled l.self.sources.now l.self.targets.now l.links l.link-index l.firsts.items
