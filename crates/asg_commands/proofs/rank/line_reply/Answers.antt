use Rattle.asg_commands.proofs.Common.{subst, IsBriefRanking}
use Rattle.asg_commands.proofs.BriefReplies.{ranked_line_due, none_line_due}
use Rattle.asg_commands.proofs.rank.line_reply.Goals as goal

pub returns-in-Ranked : goal.returns-in-Ranked
returns-in-Ranked c =
    ranked_line_due c.args.job.now c.args.count c.args.inst.now c.brief.result c.in-Ranked.line c.requires.brief c.requires.few
    (subst (IsBriefRanking c.args.job.now.objective c.args.inst.now c.args.count) c.in-Ranked.is c.requires.told) c.brief.ensures

pub returns-in-Nothing : goal.returns-in-Nothing
returns-in-Nothing c =
    none_line_due c.args.job.now c.args.count c.args.inst.now c.brief-in-Nothing.result c.in-Nothing.line c.requires.brief c.requires.few
    (subst (IsBriefRanking c.args.job.now.objective c.args.inst.now c.args.count) c.in-Nothing.is c.requires.told) c.brief-in-Nothing.ensures
