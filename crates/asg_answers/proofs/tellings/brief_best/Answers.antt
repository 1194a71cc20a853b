use Rattle.asg_answers.proofs.tellings.brief_best.Goals as goal

pub best_line-requires : goal.best_line-requires
best_line-requires c =
    c.best_law.ensures c.args.objective c.args.inst.now c.args.choice.now c.args.proof.now c.rows-rows.ensures.instance c.requires.passes c.requires.proved.valid c.requires.proved.proved
