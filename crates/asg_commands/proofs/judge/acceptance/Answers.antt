use Rattle.asg_commands.proofs.Common.{sym, ◌∙◌}
use Rattle.asg_commands.proofs.judge.acceptance.Goals as goal

pub returns : goal.returns
returns c = (c.made.ensures.0, sym c.in_ok-line.ensures.ok ∙ c.made.ensures.1)
