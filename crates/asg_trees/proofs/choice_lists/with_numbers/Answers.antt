use Rattle.asg_trees.proofs.Common.{[], ◌∷◌, ◌++◌, ap, ◌∙◌}
use Rattle.asg_trees.proofs.ChoiceLemmas.{column_fits, numbers_more}
use Rattle.asg_trees.proofs.choice_lists.with_numbers.Goals as goal

pub number_of-requires : goal.number_of-requires
number_of-requires c = column_fits c.args.inst.now c.requires.instance c.args.choice.now c.requires.valid c.loop-row.row c.get.result c.get.ensures

pub loop-row-preserved : goal.loop-row-preserved
loop-row-preserved c =
    c.in_ok-push.ensures.items
    ∙ ap (λ n. c.loop-row.more.items ++ n ∷ []) c.number_of.ensures
    ∙ numbers_more c.args.numbers.items c.loop-row.more.items c.args.choice.now c.loop-row.row c.get.result c.get.ensures c.loop-row.invariant
