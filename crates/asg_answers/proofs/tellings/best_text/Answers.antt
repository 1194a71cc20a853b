use Rattle.asg_answers.proofs.Common.{IfOk, sym, subst, bytes_of, TellsBest}
use Rattle.asg_answers.proofs.tellings.best_text.Goals as goal

pub returns-then-brief : goal.returns-then-brief
returns-then-brief c = subst (λ b. IfOk c.brief_best.result (λ text. TellsBest b c.args.objective c.args.inst.now (bytes_of text))) (sym c.if-brief.true) c.brief_best.ensures

pub returns-else-brief : goal.returns-else-brief
returns-else-brief c = subst (λ b. IfOk c.whole_best.result (λ text. TellsBest b c.args.objective c.args.inst.now (bytes_of text))) (sym c.if-brief.false) c.whole_best.ensures
