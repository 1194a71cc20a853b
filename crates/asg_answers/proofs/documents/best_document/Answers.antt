use Rattle.asg_answers.proofs.DocumentLemmas.{IsBestDocument-made}
use Rattle.asg_answers.proofs.documents.best_document.Goals as goal

pub returns : goal.returns
returns c =
    IsBestDocument-made c.hall_rows_law.ensures.short c.soundness_law.ensures c.args.objective c.args.inst.now c.args.choice.now c.in_ok-answer.answer c.args.proof c.rows-rows.ensures.instance c.requires.passes c.requires.word
    c.requires.side c.requires.proved c.requires.promised c.tell_ranges.ensures
    c.in_ok-answer.ensures.value c.in_ok-answer.ensures.value_text c.in_ok-answer.ensures.cells c.in_ok-answer.ensures.cells_text
