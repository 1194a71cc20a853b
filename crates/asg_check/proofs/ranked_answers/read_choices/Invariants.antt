use Rattle.asg_check.proofs.Common.{◌≡◌, length, take, AreWrittenAs}
use Rattle.asg_check.proofs.ranked_answers.read_choices.Given as goal

abbrev pub invariant-loop-place : goal.invariant-loop-place
invariant-loop-place l =
    (length l.choices ≡ l.place) × AreWrittenAs l.inst (take l.place l.answers) l.choices
