use Rattle.asg_verdicts.proofs.LevelCommon.{◌≡◌, ◌≤◌, length, filter_map, range_with_len, chosen_cost, costs_at}
use Rattle.asg_verdicts.proofs.level_choices.count_of.Given as goal

-- those of the rows so far
abbrev pub invariant-loop-row : goal.invariant-loop-row
invariant-loop-row l =
    record {
      some : l.count ≡ length (costs_at l.cost (filter_map (chosen_cost l.inst l.chosen) (range_with_len 0 l.row)));
      few : l.count ≤ l.row;
    }
