use Rattle.asg_nodes.proofs.rebuilding.+rebuild.Given as goal

abbrev pub decreases-rebuild : goal.decreases-rebuild
decreases-rebuild g l = l.node
