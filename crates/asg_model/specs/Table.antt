use Rattle.std.specs.Prelude.{◌≡◌, ◌⊎◌, ℕ, ◌<◌, ◌*◌, ◌/◌, ◌%◌, Bool, ℤ, pos, negsuc, if◌then◌else◌, Option, Some, None, List, length, filter_map, slice_index_or, All}
use Rattle.std.specs.List.{enumerate_from}
use Rattle.std.specs.Option.{option_map}
use Rattle.std.specs.Ordering.{int_eq}
use Rattle.asg_model.specs.declared.parts.Cost.{Cost}
use Rattle.asg_model.specs.Live.{cost_at}
use Rattle.asg_model.specs.Problem.{Problem}
use Rattle.asg_model.specs.ValueRange.{IsPartInRange}

-- what stands in a table where there is no cell: -2^63
abbrev pub absent : ℤ
absent = negsuc 9223372036854775807

-- the cost at an index of a table, of the first part that stands there: none where that is absent;
-- past the end of the second parts a second part is 0
abbrev pub table_cost : List ℤ → ℕ → ℤ → Option Cost
table_cost seconds k a =
    if int_eq a absent then None else Some (record { a = a; b = slice_index_or seconds k (pos 0) })

-- the cell at an index of a table with so many columns, row by row
abbrev pub table_cell : ℕ → List ℤ → ℕ × ℤ → Option ((ℕ × ℕ) × Cost)
table_cell columns seconds entry =
    option_map (λ cost. ((entry.0 / columns, entry.0 % columns), cost))
    (table_cost seconds entry.0 entry.1)

-- the cells of a table with so many columns, row by row, of its first and its second parts
unfoldable pub table_cells : ℕ → List ℤ → List ℤ → List ((ℕ × ℕ) × Cost)
table_cells columns firsts seconds =
    filter_map (table_cell columns seconds) (enumerate_from 0 firsts)

-- a first part that is absent or in range
abbrev pub IsEntry : ℤ → Type 0
IsEntry a = (a ≡ absent) ⊎ IsPartInRange a

-- a whole table of so many rows and columns, its parts in range
pub record IsTable (rows columns : ℕ) (firsts seconds : List ℤ) : Type 0 where
  pub whole : length firsts ≡ rows * columns
  pub firsts_in_range : All IsEntry firsts
  pub seconds_in_range : All IsPartInRange seconds

-- the first and the second parts of a row at place r of a table: the cost of each of the row's
-- cells is that of its parts
pub record AreTableParts (columns : ℕ) (firsts seconds : List ℤ) (r : ℕ) (row_firsts row_seconds : List ℤ)
    : Type 0 where
  pub whole : length row_firsts ≡ columns
  pub costs : (c : ℕ) → c < columns →
      cost_at (table_cells columns firsts seconds) r c
      ≡ table_cost row_seconds c (slice_index_or row_firsts c absent)

-- the first and the second parts of the costs of the row at place r, column by column
pub record AreRowParts (X : Problem) (r : ℕ) (firsts seconds : List ℤ) : Type 0 where
  pub there : r < length X.rows
  pub whole : length firsts ≡ length X.columns
  pub costs : (c : ℕ) → c < length X.columns →
      cost_at X.cells r c ≡ table_cost seconds c (slice_index_or firsts c absent)

-- of the first parts of a table with so many columns those stay at whose places the answer is true,
-- and all others are absent
pub record RetainsFirsts (answers : ℕ → ℕ → Bool → Type 0) (columns : ℕ) (firsts after : List ℤ) : Type 0 where
  pub count : length after ≡ length firsts
  pub each : (k : ℕ) → k < length firsts →
      (b : Bool) × answers (k / columns) (k % columns) b
      × (slice_index_or after k absent ≡ (if b then slice_index_or firsts k absent else absent))
