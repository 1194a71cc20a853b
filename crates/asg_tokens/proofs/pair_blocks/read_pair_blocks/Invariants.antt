use Rattle.asg_tokens.proofs.Common.{◌-◌, length, ArePairsReadOn}
use Rattle.asg_tokens.proofs.pair_blocks.read_pair_blocks.Given as goal

abbrev pub invariant-runs : goal.invariant-runs
invariant-runs l = ArePairsReadOn l.from.rest.now l.rest l.from.place l.place l.fn.firsts.items l.firsts.items l.fn.seconds.items l.seconds.items

abbrev pub decreases-runs : goal.decreases-runs
decreases-runs l = length l.firsts.items - l.place
