use Rattle.asg_check.proofs.Common.{ℕ, ◌<◌, get_or, IsAmissAt, SpellChoice, Answer}
use Rattle.asg_check.proofs.ranked_answers.first_amiss.Given as goal

abbrev pub invariant-loop-place : goal.invariant-loop-place
invariant-loop-place l =
    ((m : ℕ) → m < l.place → ¬ IsAmissAt l.objective l.inst l.answers m)
    × ((m : ℕ) (d : Answer) → m < l.place → SpellChoice l.inst (get_or l.answers m d).cells)
