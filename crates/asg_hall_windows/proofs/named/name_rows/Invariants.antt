use Rattle.asg_hall_windows.proofs.Common.{◌≡◌, ◌≢◌, ℕ, ◌<◌, Some, IsTrue, get_or, is_counted_id, row_place_of, IsMarked, KeepsMarks}
use Rattle.asg_hall_windows.proofs.named.name_rows.Given as goal

-- the ids so far name different counted rows, which are marked
abbrev pub invariant-loop-id : goal.invariant-loop-id
invariant-loop-id l = record {
  kept : KeepsMarks l.initial.named l.named;
  counted : (k : ℕ) → k < l.id-index → (d : ℕ) → IsTrue (is_counted_id l.inst (get_or l.ids k d));
  marked : (k : ℕ) → k < l.id-index → (d r : ℕ) → row_place_of l.inst (get_or l.ids k d) ≡ Some r → IsMarked l.named r l.fn.window;
  different : (j k d : ℕ) → j < k → k < l.id-index → get_or l.ids j d ≢ get_or l.ids k d;
}
