use Rattle.asg_answers.proofs.Common.{IfOk, sym, subst, bytes_of, TellsNone}
use Rattle.asg_answers.proofs.tellings.none_text.Goals as goal

pub returns-then-brief : goal.returns-then-brief
returns-then-brief c = subst (λ b. IfOk c.brief_none.result (λ text. TellsNone b c.args.objective c.args.inst.now c.args.form (bytes_of text))) (sym c.if-brief.true) c.brief_none.ensures

pub returns-else-brief : goal.returns-else-brief
returns-else-brief c = subst (λ b. IfOk c.whole_none.result (λ text. TellsNone b c.args.objective c.args.inst.now c.args.form (bytes_of text))) (sym c.if-brief.false) c.whole_none.ensures
