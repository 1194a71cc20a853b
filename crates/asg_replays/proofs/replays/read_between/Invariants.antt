use Rattle.asg_replays.proofs.Common.{◌≡◌, ◌≤◌, map, All, IsValue, steps_between}
use Rattle.asg_replays.proofs.replays.read_between.Given as goal

-- the values so far have the words so far
abbrev pub invariant-loop-place : goal.invariant-loop-place
invariant-loop-place g l = record {
  order : l.from ≤ l.place;
  words : map (g.M.Written.word_of l.m) l.values.items ≡ steps_between l.from l.place l.words;
  values : All (IsValue (g.M.Ordered.monoid_of l.m)) l.values.items;
}
