use Rattle.asg_cell_tables.proofs.Common.{◌≡◌, ℕ, ◌<◌, length, get_or, None, gathered_item}
use Rattle.asg_cell_tables.proofs.gathering.gather.Given as goal

-- the items so far
abbrev pub invariant-loop-k : goal.invariant-loop-k
invariant-loop-k l =
    record {
      count : length l.room ≡ length l.fn.room;
      items : (k : ℕ) → k < l.k → get_or l.room k l.other ≡ gathered_item l.items l.other (get_or l.columns k None);
    }
