-- What a look over a row or a cell of a table shows.
use Rattle.std.specs.Prelude.{◌≡◌, ◌≢◌, ◌⊎◌, ℕ, ◌+◌, ◌<◌, ◌≤◌, Some, List, length, slice_index, Contains}
use Rattle.asg_dual_bounds.specs.Tables.{Table, absent, number_in}

-- each rise has one at most as great that is below what stands where there is no number
abbrev pub AreClipped : List ℕ → List ℕ → Type 0
AreClipped rises low =
    (c : ℕ) → c < length rises →
    (slice_index low c ≤ slice_index rises c) × (slice_index low c < absent)

-- each number is, with its column's rise, at least the fall
abbrev pub AreSlotsAbove : List ℕ → List ℕ → ℕ → Type 0
AreSlotsAbove slots rises fall =
    (c : ℕ) → c < length slots → slice_index slots c ≢ absent
    → fall ≤ slice_index slots c + slice_index rises c

-- the cell of row r and column c is, with the column's rise, at least the fall
abbrev pub IsCellAbove : Table → ℕ → ℕ → ℕ → List ℕ → Type 0
IsCellAbove table r c fall rises =
    (x : ℕ) → number_in table r c ≡ Some x → fall ≤ x + slice_index rises c

-- each cell of row r is
abbrev pub IsRowAbove : Table → ℕ → ℕ → List ℕ → Type 0
IsRowAbove table r fall rises = (c : ℕ) → IsCellAbove table r c fall rises

-- each cell of row r is, but for one in a column of its own and those in banned ones
abbrev pub IsRowAboveBut : Table → ℕ → ℕ → List ℕ → ℕ → List ℕ → Type 0
IsRowAboveBut table r fall rises own banned =
    (c : ℕ) → c ≢ own → ¬ Contains banned c → IsCellAbove table r c fall rises

-- a row fell by no more than before, or each of its cells is at least its fall
abbrev pub IsRowKept : Table → List ℕ → List ℕ → List ℕ → ℕ → Type 0
IsRowKept table before falls rises r =
    (slice_index falls r ≤ slice_index before r) ⊎ IsRowAbove table r (slice_index falls r) rises

-- each column rises by no less than before, nor by less than the floor
abbrev pub AreRaised : List ℕ → List ℕ → ℕ → Type 0
AreRaised before after floor =
    (c : ℕ) → c < length after →
    (slice_index before c ≤ slice_index after c) × (floor ≤ slice_index after c)
