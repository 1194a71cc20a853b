-- The different grades of entries.
use Rattle.std.specs.Prelude.{◌≡◌, ℕ, ◌<◌, List, length, All, Contains, slice_index}
use Rattle.asg_live_cells.specs.declared.live_cells.Entry.{Entry}
use Rattle.asg_live_cells.specs.LiveCells.{entry_at}

-- the numbers ascend
abbrev pub IsAscending : List ℕ → Type 0
IsAscending numbers =
    (i j : ℕ) → i < j → j < length numbers → slice_index numbers i < slice_index numbers j

-- the different grades of the entries, in order
pub record AreGradesOf (entries : List Entry) (grades : List ℕ) : Type 0 where
  pub ascending : IsAscending grades
  pub each : All (λ grade. (k : ℕ) × (k < length entries) × ((entry_at entries k).grade ≡ grade)) grades
  pub every : (k : ℕ) → k < length entries → Contains grades (entry_at entries k).grade
