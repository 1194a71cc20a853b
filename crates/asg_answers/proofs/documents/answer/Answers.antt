use Rattle.asg_answers.proofs.DocumentLemmas.{HasValueText-ranged}
use Rattle.asg_answers.proofs.documents.answer.Goals as goal

pub returns-clause-value_text : goal.returns-clause-value_text
returns-clause-value_text c =
    HasValueText-ranged c.args.objective c.args.inst.now c.args.choice.now c.in_ok-value.value c.requires.word c.rows-rows.ensures.instance c.requires.valid c.in_ok-value.ensures.exact c.in_ok-value.ensures.in_range
