use Rattle.asg_answers.proofs.tellings.brief_none.Goals as goal

pub none_line-requires : goal.none_line-requires
none_line-requires c = λ f valid. c.infeasible_law.ensures c.args.inst.now c.args.rows.now f c.requires valid
