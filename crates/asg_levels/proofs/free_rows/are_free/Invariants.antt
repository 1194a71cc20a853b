use Rattle.asg_levels.proofs.Common.{◌≡◌, ℕ, ◌<◌, List, length, has_bit, AreFree, staying_at}
use Rattle.asg_levels.proofs.free_rows.are_free.Given as goal

-- the rows so far
abbrev pub invariant-loop-row : goal.invariant-loop-row
invariant-loop-row l =
    record {
      free : (leaves : List ℕ) → ((c : ℕ) → c < length l.enters → has_bit l.stay 0 c ≡ staying_at leaves 0 c)
          → AreFree l.zeros l.ones l.ins l.outs l.enters leaves (length l.enters) l.row;
    }
