use Rattle.asg_commands.proofs.Common.{◌∙◌, to_z-of_z, w64}
use Rattle.asg_commands.proofs.ReplyLemmas.{no_said}
use Rattle.asg_commands.proofs.judge.denial.Goals as goal

pub returns : goal.returns
returns c = (c.made.ensures.0, no_said _ _ _ _ _ c.in_ok-line.ensures.ok (to_z-of_z w64 c.args.place c.ranges.place) ∙ c.made.ensures.1)
