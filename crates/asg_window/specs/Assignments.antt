-- Perfect assignments within bands, and their spreads.
use Rattle.std.specs.Prelude.{◌≡◌, ◌≢◌, ℕ, ◌+◌, ◌<◌, List, length, AllPairs, IsTrue, slice_index}
use Rattle.asg_bit_rows.specs.BitTable.{BitTable, has_bit}
use Rattle.asg_square.specs.Grid.{Grid}
use Rattle.asg_window.specs.Bands.{IsWithin}

-- a perfect assignment by cells within the band: a list over the rows of different columns
pub record IsAssignmentWithin (Q : Grid ℕ) (low high : ℕ) (perm : List ℕ) : Type 0 where
  pub over : length perm ≡ Q.side
  pub apart : AllPairs ◌≢◌ perm
  pub cells : (r : ℕ) → r < Q.side → IsWithin Q low high r (slice_index perm r)

-- the spread of a perfect assignment: it lies within a band of one grade more, and in no shorter
-- one
pub record IsSpread (Q : Grid ℕ) (perm : List ℕ) (spread : ℕ) : Type 0 where
  pub low : ℕ
  pub within : IsAssignmentWithin Q low (low + spread + 1) perm
  pub least : (from count : ℕ) → 0 < count → IsAssignmentWithin Q from (from + count) perm
      → spread < count

-- a perfect assignment by marked cells
pub record IsMarkedAssignment (bits : BitTable) (side : ℕ) (perm : List ℕ) : Type 0 where
  pub over : length perm ≡ side
  pub apart : AllPairs ◌≢◌ perm
  pub cells : (r : ℕ) → r < side → IsTrue (has_bit bits r (slice_index perm r))
