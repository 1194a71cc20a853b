-- Rows of a reduced square: which cells are present, and which keys are greater than they lead to.
use Rattle.std.specs.Prelude.{◌≡◌, ℕ, ◌+◌, ◌*◌, ◌<◌, List, Option, Some, is_some, slice_index_or}
use Rattle.asg_bit_rows.specs.BitTable.{is_bit_set}
use Rattle.asg_bit_rows.specs.WordBits.{HasBit}
use Rattle.asg_order.specs.Monoid.{Monoid, IsValue, IsLe}

-- the word of this number of a row: each bit says whether there is a cell at its column
abbrev pub IsWordOf : {V : Type 0} → (ℕ → Option V) → ℕ → ℕ → Type 0
IsWordOf row number word =
    (k : ℕ) → k < 64 → is_bit_set word k ≡ is_some (row (64 * number + k))

-- at each column of the word of this number whose bit isn't set the key is at most the product of a
-- sum and the row's cell, where there is one, and it and the key are values
abbrev pub TellsLesser : {V : Type 0} → Monoid V → (ℕ → Option V) → V → List V → ℕ → ℕ → Type 0
TellsLesser {V} M row sum keys number word =
    (k : ℕ) (x : V) → k < 64 → (HasBit word k → ⊥) → row (64 * number + k) ≡ Some x
    → IsValue M x → IsValue M (slice_index_or keys (64 * number + k) M.unit)
    → IsLe M (slice_index_or keys (64 * number + k) M.unit) (M.product sum x)
