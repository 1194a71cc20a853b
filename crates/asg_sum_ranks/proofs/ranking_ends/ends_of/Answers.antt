use Rattle.asg_sum_ranks.proofs.Common.{ap, ◌∙◌, choice_of, answers_of, columns_of}
use Rattle.asg_sum_ranks.proofs.Ends.{ends_are}
use Rattle.asg_sum_ranks.proofs.ranking_ends.ends_of.Goals as goal

pub returns : goal.returns
returns c =
    let objective = c.args.ground.now.objective in
    let X = c.args.ground.now.inst.now in
    let branches = c.args.branches.now in
    ends_are objective X c.args.count branches c.in_ok-first.first c.in_ok-last.last
    (c.listed_law.ensures objective X c.args.count (answers_of branches) c.requires.objective c.rows-rows.ensures.instance c.args.ground.now.plain c.requires.ranking) c.requires.many
    (c.in_ok-first.ensures ∙ ap choice_of (c.columns.ensures ∙ ap columns_of c.at.ensures)) (c.in_ok-last.ensures ∙ ap choice_of (c.columns-2.ensures ∙ ap columns_of c.at-2.ensures))
