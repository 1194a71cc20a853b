use Rattle.asg_tokens.proofs.Common.{◌≡◌, ℕ, ◌+◌, ◌-◌, ◌<◌, ◌≤◌, drop, bit_at, AreDigitsFrom, AreReadOn}
use Rattle.asg_tokens.proofs.cell_blocks.read_block.Given as goal

-- the next cell begins at `start`, before the first of the ends that are left
abbrev pub invariant-cells : goal.invariant-cells
invariant-cells l = record {
  low : l.start ≤ 64;
  placed : l.place ≤ l.from + l.start;
  none : (k : ℕ) → k < l.start → bit_at l.ends k ≡ 0;
  digits : AreDigitsFrom l.start l.text l.ends;
  read : AreReadOn l.text (drop l.start l.text) l.from l.place l.fn.firsts.items l.firsts.items;
}

abbrev pub decreases-cells : goal.decreases-cells
decreases-cells l = 64 - l.start
