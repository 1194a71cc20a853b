use Rattle.asg_values.proofs.Common.{◌≡◌, ℕ, ◌<◌, false, ◌≢◌, length, get_or, take, IsTrue, list_any, is_counted_id, most_rows}
use Rattle.asg_values.proofs.HallRows.{names}
use Rattle.asg_values.proofs.hall_sets.are_counted_once.Given as goal

abbrev pub invariant-loop-id : goal.invariant-loop-id
invariant-loop-id l = record {
  counted : (k : ℕ) → k < l.id-index → (d : ℕ) → IsTrue (is_counted_id l.inst (get_or l.ids k d));
  different : (j k d : ℕ) → j < k → k < l.id-index → get_or l.ids j d ≢ get_or l.ids k d;
  size : length l.named ≡ most_rows;
  marks : (r : ℕ) → r < most_rows → get_or l.named r false ≡ list_any (names l.inst r) (take l.id-index l.ids);
}
