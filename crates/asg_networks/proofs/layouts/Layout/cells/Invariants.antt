use Rattle.asg_networks.proofs.ListedCells.{AreListed}
use Rattle.asg_networks.proofs.layouts.Layout.cells.Given as goal

-- the cells of the arcs so far are listed, and the next place stands behind them
abbrev pub invariant-loop-link : goal.invariant-loop-link
invariant-loop-link l =
    AreListed l.self.sources.now l.self.targets.now l.links l.link-index l.next l.cells.items
