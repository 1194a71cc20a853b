use Rattle.asg_commands.proofs.Common.{sym, subst}
use Rattle.asg_text.specs.RectTexts.{IsPlain}
use Rattle.asg_promises.specs.laws.MadeInstances.{generated_is_plain}
use Rattle.asg_commands.proofs.make.made_reply.Goals as goal

pub write_rect-requires : goal.write_rect-requires
write_rect-requires c = subst IsPlain (sym c.in_ok-inst.ensures) (generated_is_plain c.args.seed c.args.side)
