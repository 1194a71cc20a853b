use Rattle.asg_verdicts.proofs.LevelCommon.{◌≡◌, ℕ, ◌<◌, get_or, None}
use Rattle.asg_verdicts.proofs.level_choices.is_same_choice.Given as goal

-- the rows so far choose the same
abbrev pub invariant-loop-row : goal.invariant-loop-row
invariant-loop-row l =
    record {
      same : (r : ℕ) → r < l.row → get_or l.chosen r None ≡ get_or l.choice r None;
    }
