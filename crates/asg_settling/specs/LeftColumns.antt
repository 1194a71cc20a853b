-- The columns that leave before the end of a phase.
use Rattle.std.specs.Prelude.{ℕ, ◌<◌, ◌≤◌, List, length, slice_index}

-- a place isn't before the column k, and the columns from k on that are before it stay until the
-- end
pub record IsPassed (leaves : List ℕ) (end k next : ℕ) : Type 0 where
  pub onward : k ≤ next
  pub within : next ≤ length leaves
  pub stays : (j : ℕ) → k ≤ j → j < next → end ≤ slice_index leaves j

-- for each column, and for the place after all of them, a list holds such a place
abbrev pub ArePassed : List ℕ → ℕ → List ℕ → Type 0
ArePassed leaves end next = (k : ℕ) → k ≤ length leaves → IsPassed leaves end k (slice_index next k)
