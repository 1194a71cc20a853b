use Rattle.asg_verdicts.proofs.LevelCommon.{◌≡◌, ℕ, ◌<◌, has_bit, level_value, cell_at}
use Rattle.asg_verdicts.proofs.level_walks.set_row.Given as goal

-- the columns so far
abbrev pub invariant-loop-column : goal.invariant-loop-column
invariant-loop-column l =
    record {
      end : l.column-end ≡ l.square.side;
      same : record l.now { cells = l.fn.now.cells } ≡ l.fn.now;
      done : (c : ℕ) → c < l.column → cell_at l.now l.row c ≡ level_value (has_bit l.left l.row c) l.cost (cell_at l.square l.row c);
      others : (r c : ℕ) → (r ≡ l.row → ⊥) → cell_at l.now r c ≡ cell_at l.fn.now r c;
    }
