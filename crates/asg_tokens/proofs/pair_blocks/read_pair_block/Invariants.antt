use Rattle.asg_tokens.proofs.Common.{◌≡◌, ℕ, ◌-◌, ◌<◌, ◌≤◌, drop, bit_at, AreDigitsFrom, ArePairsReadOn}
use Rattle.asg_tokens.proofs.pair_blocks.read_pair_block.Given as goal

-- the next pair begins at `start`, before the first of the ends that are left
abbrev pub invariant-pairs : goal.invariant-pairs
invariant-pairs l = record {
  low : l.start ≤ 64;
  none : (k : ℕ) → k < l.start → bit_at l.ends k ≡ 0;
  digits : AreDigitsFrom l.start l.text l.ends;
  read : ArePairsReadOn l.text (drop l.start l.text) l.from l.place l.fn.firsts.items l.firsts.items l.fn.seconds.items l.seconds.items;
}

abbrev pub decreases-pairs : goal.decreases-pairs
decreases-pairs l = 64 - l.start
