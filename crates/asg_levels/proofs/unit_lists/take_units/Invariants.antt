use Rattle.asg_levels.proofs.Common.{◌≡◌, ◌*◌, length, take, word_count, AreCountedUnits}
use Rattle.asg_levels.proofs.unit_lists.take_units.Given as goal

-- the phases so far
abbrev pub invariant-loop-place : goal.invariant-loop-place
invariant-loop-place l =
    record {
      ins : length l.ins.items ≡ l.zeros.rows;
      outs : length l.outs.items ≡ 64 * word_count l.zeros.rows;
      stay_rows : l.stay.rows ≡ 1;
      stay_columns : l.stay.columns ≡ l.zeros.rows;
      counted : AreCountedUnits l.zeros.rows l.zeros l.ones l.ins.items l.outs.items (take l.place l.phases);
    }
