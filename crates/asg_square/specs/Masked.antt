-- Squares without some cells, which rows of bits tell.
use Rattle.std.specs.Prelude.{◌≡◌, ℕ, ◌+◌, ◌/◌, ◌%◌, ◌<◌, if◌then◌else◌, Bool, None, List, length, map, slice_index, slice_index_or, bit_and}
use Rattle.std.specs.List.{range_with_len}
use Rattle.asg_bit_rows.specs.BitTable.{bit_table, has_bit}
use Rattle.asg_square.specs.Grid.{Grid}

-- rows of bits over a side, in words row by row, keep the cell at a row and a column: the bit is
-- set
abbrev pub keeps : ℕ → List ℕ → ℕ → ℕ → Bool
keeps side words r k = has_bit (bit_table side side words) r k

-- the square with the cells that rows of bits keep
abbrev pub masked_grid : {V : Type 0} → Grid V → List ℕ → Grid V
masked_grid Q words =
    record Q {
      cells = map (λ n. if keeps Q.side words (n / Q.side) (n % Q.side) then slice_index_or Q.cells n None else None)
          (range_with_len 0 (length Q.cells));
    }

-- words that have the bits of others which words from a place on have too
pub record AreBoth (present words : List ℕ) (first : ℕ) (both : List ℕ) : Type 0 where
  pub count : length both ≡ length present
  pub each : (n : ℕ) → n < length present
      → slice_index both n ≡ bit_and (slice_index present n) (slice_index words (first + n))
