use Rattle.std.specs.Prelude.{ℕ, ◌<◌, ◌≤ℤ◌, List, length, slice_index_or}
use Rattle.asg_proof.specs.declared.windows.Window.{Window}

-- no end of a window is above that of a later one
abbrev pub AreAscending : List Window → Type 0
AreAscending windows = (i j : ℕ) (d : Window) → i < j → j < length windows
    → ((slice_index_or windows i d).lo ≤ℤ (slice_index_or windows j d).lo)
    × ((slice_index_or windows i d).hi ≤ℤ (slice_index_or windows j d).hi)
