use Rattle.asg_grade_lists.proofs.Common.{sym, ◌∙◌}
use Rattle.asg_grade_lists.proofs.RiseLemmas.{zero_step}
use Rattle.asg_grade_lists.proofs.rises.grade_of.Goals as goal

pub returns-clause-steps : goal.returns-clause-steps
returns-clause-steps c =
    sym c.steps-words.ensures
    ∙ zero_step c.steps-words.result c.get-word.result (sym c.len.ensures ∙ c.if-len-ne1.false) (c.get-word.ensures c.get-word.result) c.if-word-gt0.false
