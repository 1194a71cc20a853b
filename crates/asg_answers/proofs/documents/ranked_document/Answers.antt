use Rattle.asg_answers.proofs.Common.{subst, AreAnswersOf}
use Rattle.asg_answers.proofs.DocumentLemmas.{IsRankedDocument-made}
use Rattle.asg_answers.proofs.documents.ranked_document.Goals as goal

pub returns : goal.returns
returns c =
    IsRankedDocument-made c.hall_rows_law.ensures.short c.soundness_law.ensures c.args.objective c.args.inst.now c.args.count c.args.choices.now c.in_ok-answers.answers c.args.nodes c.rows-rows.ensures.instance c.requires.passes
    c.requires.asked c.requires.word c.requires.count c.requires.proved c.len-count.ensures.nodes
    (subst (λ choices. AreAnswersOf c.args.objective c.args.inst.now choices c.in_ok-answers.answers) c.as_slice.ensures c.in_ok-answers.ensures)
