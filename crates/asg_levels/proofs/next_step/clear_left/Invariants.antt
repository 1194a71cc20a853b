use Rattle.asg_levels.proofs.Common.{◌≡◌, length, word_count, ClearsColumns}
use Rattle.asg_levels.proofs.next_step.clear_left.Given as goal

-- the words so far
abbrev pub invariant-loop-number : goal.invariant-loop-number
invariant-loop-number l =
    record {
      end : l.number-end ≡ word_count (length l.leaves);
      clears : ClearsColumns l.fn.marks l.marks l.leaves l.number;
    }
