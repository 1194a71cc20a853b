use Rattle.asg_answers.proofs.DocumentLemmas.{IsNoneDocument-made}
use Rattle.asg_answers.proofs.documents.none_document.Goals as goal

pub returns : goal.returns
returns c =
    IsNoneDocument-made c.hall_rows_law.ensures.short c.soundness_law.ensures c.args.objective c.args.inst.now c.args.form c.command_of.result c.args.rows c.rows-rows.ensures.instance c.requires.passes c.requires.asked c.command_of.ensures
    c.requires.word c.requires.hall c.len-count.ensures.within
