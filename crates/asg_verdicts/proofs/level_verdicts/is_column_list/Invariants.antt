use Rattle.asg_verdicts.proofs.LevelCommon.{◌≡◌, ℕ, ◌<◌, ◌≢◌, length, get_or, IsTrue, has_bit}
use Rattle.asg_verdicts.proofs.level_verdicts.is_column_list.Given as goal

-- the columns so far are below the side and different, and are those that were seen
abbrev pub invariant-loop-place : goal.invariant-loop-place
invariant-loop-place l =
    record {
      count : length l.columns ≡ l.side;
      rows : l.seen.rows ≡ 1;
      width : l.seen.columns ≡ l.side;
      within : (i : ℕ) → i < l.place → get_or l.columns i 0 < l.side;
      apart : (i j : ℕ) → i < j → j < l.place → get_or l.columns i 0 ≢ get_or l.columns j 0;
      seen : (i : ℕ) → i < l.place → IsTrue (has_bit l.seen 0 (get_or l.columns i 0));
      only : (c : ℕ) → IsTrue (has_bit l.seen 0 c) → (i : ℕ) × (i < l.place) × (get_or l.columns i 0 ≡ c);
    }
