use Rattle.asg_grade_lists.proofs.rises.row_rises.Goals as goal

pub returns : goal.returns
returns c = λ yes _. c.none_lower.ensures yes
