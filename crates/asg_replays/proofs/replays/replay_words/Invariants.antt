use Rattle.asg_replays.proofs.Common.{◌≡◌, ◌-◌, ◌≤◌, length, first_part, IsReplayed}
use Rattle.asg_replays.proofs.replays.replay_words.Given as goal

-- the steps so far are applied
abbrev pub invariant-parts : goal.invariant-parts
invariant-parts g l = record {
  count : l.count ≡ length l.phase.steps;
  within : l.to ≤ l.count;
  led : IsReplayed (g.M.Ordered.monoid_of l.m) (g.M.DMonoid.difference l.m) (g.M.Written.word_of l.m) (first_part l.to l.phase) (g.S.RowSquare.as_reduced l.fn.square) (g.S.RowSquare.as_reduced l.square);
}

abbrev pub decreases-parts : goal.decreases-parts
decreases-parts g l = l.count - l.to
