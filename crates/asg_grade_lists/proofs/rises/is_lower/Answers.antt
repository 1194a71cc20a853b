use Rattle.asg_grade_lists.proofs.Common.{sym, ◌∙◌, cell_at}
use Rattle.asg_grade_lists.proofs.RiseLemmas.{absent_stays, value_stays}
use Rattle.asg_grade_lists.proofs.rises.is_lower.Goals as goal

pub returns-then-not-is_value_lower : goal.returns-then-not-is_value_lower
returns-then-not-is_value_lower c = λ _.
    value_stays c.args.grade c.args.leave c.args.value (cell_at c.args.square.now c.args.r c.args.k) c.requires.value
    (c.is_value_lower.ensures c.if-not-is_value_lower.true)

pub returns : goal.returns
returns c = λ none. absent_stays c.args.grade c.args.leave c.at.result (cell_at c.args.square.now c.args.r c.args.k) c.at.ensures (sym c.is_some.ensures ∙ none)
