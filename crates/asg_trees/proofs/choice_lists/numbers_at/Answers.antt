use Rattle.asg_trees.proofs.Common.{◌*◌, map, take, drop, Some, ap, ◌∙◌, arith, chosen_by}
use Rattle.asg_trees.proofs.ChoiceLemmas.{choice_at}
use Rattle.asg_trees.proofs.choice_lists.numbers_at.Goals as goal

pub returns-clause-choice : goal.returns-clause-choice
returns-clause-choice c =
    let numbers = c.args.numbers.now in
    choice_at c.args.rows c.args.count c.args.place numbers c.requires.below
    ∙ ap (λ n. Some (map chosen_by (take n (drop (c.args.place * c.args.rows) numbers)))) (omega arith)
