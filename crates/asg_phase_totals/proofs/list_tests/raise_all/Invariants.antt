use Rattle.asg_phase_totals.proofs.Common.{◌≡◌, ℕ, ◌<◌, length, take, slice_index, row_raise, column_raise}
use Rattle.asg_phase_totals.proofs.list_tests.raise_all.Given as goal

-- the dual variables are raised by the phases so far
abbrev pub invariant-loop-i : goal.invariant-loop-i
invariant-loop-i g l =
    let N = g.N.SumNumber in
    record {
      row_count : length l.rows.items ≡ length l.fn.rows.items;
      column_count : length l.columns.items ≡ length l.fn.rows.items;
      rows : (r : ℕ) → r < length l.fn.rows.items → slice_index (N.numbers l.rows.items) r ≡ row_raise (take l.i (N.phases l.phases)) r;
      columns : (k : ℕ) → k < length l.fn.rows.items → slice_index (N.numbers l.columns.items) k ≡ column_raise (take l.i (N.phases l.phases)) k;
      room : length l.room ≡ length l.fn.room;
    }
