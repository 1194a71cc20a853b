use Rattle.asg_repair.proofs.Common.{sym, take_all}
use Rattle.asg_repair.proofs.session_answers.first_ids.Goals as goal

pub returns-else-count-ids : goal.returns-else-count-ids
returns-else-count-ids c = sym (take_all c.args.count c.args.ids.now c.if-count-ids.false)
