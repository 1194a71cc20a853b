use Rattle.asg_cell_tables.proofs.Common.{◌≡◌, ℕ, ◌+◌, ◌*◌, ◌/◌, ◌<◌, length, get_or}
use Rattle.asg_cell_tables.proofs.gathering.write_pairs.Given as goal

-- the items so far
abbrev pub invariant-loop-i : goal.invariant-loop-i
invariant-loop-i l =
    record {
      count : length l.room ≡ length l.fn.room;
      items : (k : ℕ) → k < 2 * l.i → get_or l.room k l.other ≡ get_or l.items (l.from + k / 2) l.other;
    }
