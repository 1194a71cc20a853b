-- Words of the columns that are out of one step less than a mark says.
use Rattle.std.specs.Prelude.{◌≡◌, ℕ, ◌+◌, ◌*◌, ◌/◌, ◌%◌, ◌<◌, ◌==◌, List, length, slice_index}
use Rattle.asg_bit_rows.specs.BitTable.{is_bit_set}

-- how many words a mark has: one for each 64 columns
abbrev pub words_each : List ℕ → ℕ
words_each outs = length outs / 64

-- the words of one mark after the other: the bit of a column says whether it is out of one step
-- less than the mark says
abbrev pub AreMarkWords : List ℕ → List ℕ → Type 0
AreMarkWords outs words =
    (i k : ℕ) → i < length words → k < 64 → is_bit_set (slice_index words i) k
    ≡ (slice_index outs (64 * (i % words_each outs) + k) + 1 == i / words_each outs)
