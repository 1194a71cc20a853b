use Rattle.asg_tokens.proofs.Common.{◌-◌, length, AreReadOn}
use Rattle.asg_tokens.proofs.cell_blocks.read_blocks.Given as goal

abbrev pub invariant-runs : goal.invariant-runs
invariant-runs l = AreReadOn l.text l.rest l.from l.place l.fn.firsts.items l.firsts.items

abbrev pub decreases-runs : goal.decreases-runs
decreases-runs l = length l.firsts.items - l.place
