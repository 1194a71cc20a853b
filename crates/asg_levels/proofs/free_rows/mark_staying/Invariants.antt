use Rattle.asg_levels.proofs.Common.{◌≡◌, ℕ, ◌<◌, length, has_bit, staying_at}
use Rattle.asg_levels.proofs.free_rows.mark_staying.Given as goal

-- the columns so far
abbrev pub invariant-loop-column : goal.invariant-loop-column
invariant-loop-column l =
    record {
      rows : l.stay.rows ≡ 1;
      columns : l.stay.columns ≡ length l.leaves;
      done : (c : ℕ) → c < l.column → has_bit l.stay 0 c ≡ staying_at l.leaves 0 c;
    }
