-- What looks over a row and a column of a table show of the gap of a child.
use Rattle.std.specs.Prelude.{◌≡◌, ◌≢◌, ◌⊎◌, ℕ, ◌+◌, ◌<◌, ◌≤◌, Some, List, slice_index, Contains}
use Rattle.asg_dual_bounds.specs.Bounds.{Duals}
use Rattle.asg_dual_bounds.specs.Tables.{Table, number_in}

-- each number stays, but for those in columns that one of the first rows has
abbrev pub Bars : List ℕ → ℕ → List ℕ → List ℕ → Type 0
Bars columns count before after =
    (c : ℕ) → (slice_index after c ≡ slice_index before c)
    ⊎ ((r : ℕ) × (r < count) × (slice_index columns r ≡ c))

-- the gap is 0, or with it the fall is at most each number of row k with what its column has left
abbrev pub IsGapBelow : Table → ℕ → ℕ → List ℕ → ℕ → Type 0
IsGapBelow table k fall low gap =
    (c x : ℕ) → number_in table k c ≡ Some x → (gap ≡ 0) ⊎ (fall + gap ≤ x + slice_index low c)

-- the same over the rises, but for columns of the first rows and banned ones
abbrev pub IsRowGapIn : Table → List ℕ → ℕ → List ℕ → Duals → ℕ → Type 0
IsRowGapIn table answer k banned duals gap =
    (c x : ℕ) → number_in table k c ≡ Some x
    → ((r : ℕ) → r < k + 1 → slice_index answer r ≢ c) → ¬ Contains banned c
    → (gap ≡ 0) ⊎ (slice_index duals.falls k + gap ≤ x + slice_index duals.rises c)

-- the gap is 0, or with it each later row's fall is at most its number in the column, with the
-- column's rise, and the floor is at most the rise
pub record IsColumnGapIn (table : Table) (k column : ℕ) (falls : List ℕ) (rise floor gap : ℕ)
    : Type 0 where
  pub cells : (j : ℕ) → j < table.rows → k < j → (x : ℕ) → number_in table j column ≡ Some x
      → (gap ≡ 0) ⊎ (slice_index falls j + gap ≤ x + rise)
  pub floored : (gap ≡ 0) ⊎ (floor + gap ≤ rise)

-- a column gap below 2^32 of row k of an answer
abbrev pub IsColumnGapAt : Table → List ℕ → ℕ → Duals → ℕ → Type 0
IsColumnGapAt table answer k duals gap =
    (gap < 4294967296)
    × IsColumnGapIn table k (slice_index answer k) duals.falls
    (slice_index duals.rises (slice_index answer k)) duals.floor gap

-- what each column has is at most what the numbers of later rows leave of its clipped rise, from
-- so many rows before the end on, or 0
abbrev pub AreLeasts : Table → ℕ → List ℕ → List ℕ → List ℕ → Type 0
AreLeasts table count falls low leasts =
    (j c x : ℕ) → j < table.rows → table.rows ≤ j + count → number_in table j c ≡ Some x
    → (slice_index leasts c ≡ 0) ⊎ (slice_index falls j + slice_index leasts c ≤ x + slice_index low c)

-- a row gap and a column gap, added up
pub record IsGapIn (table : Table) (answer : List ℕ) (k : ℕ) (banned : List ℕ) (duals : Duals)
    (gap : ℕ) : Type 0 where
  pub row_gap : ℕ
  pub column_gap : ℕ
  pub both : gap ≡ row_gap + column_gap
  pub row : IsRowGapIn table answer k banned duals row_gap
  pub column : IsColumnGapIn table k (slice_index answer k) duals.falls
      (slice_index duals.rises (slice_index answer k)) duals.floor column_gap
