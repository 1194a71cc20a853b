-- Cells whose grades are under a limit, and words of their bits.
use Rattle.std.specs.Prelude.{◌≡◌, ℕ, ◌<◌, nat_lt, Bool, false, Option, List, slice_index}
use Rattle.std.specs.Option.{option_map_or}
use Rattle.asg_bit_rows.specs.BitTable.{BitTable, has_bit, is_bit_set}
use Rattle.asg_square.specs.Grid.{Grid, cell_at}

-- there is a cell, and its grade is under the limit
abbrev pub is_under : ℕ → Option ℕ → Bool
is_under limit cell = option_map_or (λ grade. nat_lt grade limit) cell false

-- exactly the cells of a square whose grades are under the limit are marked
abbrev pub MarksUnder : Grid ℕ → ℕ → BitTable → Type 0
MarksUnder Q limit bits = (r c : ℕ) → r < Q.side → c < Q.side → has_bit bits r c ≡ is_under limit (cell_at Q r c)

-- the bits of a word are set where the first so many grades are under the limit
abbrev pub AreBitsUnder : List ℕ → ℕ → ℕ → ℕ → Type 0
AreBitsUnder grades count limit word = (k : ℕ) → k < count → is_bit_set word k ≡ nat_lt (slice_index grades k) limit
