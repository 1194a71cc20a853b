-- Marks of the cells that are 0, from before a step by 1 to after it.
use Rattle.std.specs.Prelude.{◌≡◌, ℕ, ◌*◌, ◌/◌, ◌%◌, ◌<◌, ◌≤◌, ◌&&◌, ◌==◌, not, List, slice_index}
use Rattle.asg_bit_rows.specs.BitTable.{BitTable, has_bit, is_bit_set}
use Rattle.asg_levels.specs.Tight.{is_tight}

-- the bits of a word are set where one of the first so many numbers is 0
abbrev pub AreZeroBits : List ℕ → ℕ → ℕ → Type 0
AreZeroBits numbers count word = (k : ℕ) → k < count → is_bit_set word k ≡ (slice_index numbers k == 0)

-- in all rows the bits of a word are taken from those of 64 columns
pub record ClearsWord (before after : BitTable) (number word : ℕ) : Type 0 where
  pub rows : after.rows ≡ before.rows
  pub columns : after.columns ≡ before.columns
  pub here : (r c : ℕ) → r < before.rows → c / 64 ≡ number → has_bit after r c ≡ (has_bit before r c && not (is_bit_set word (c % 64)))
  pub others : (r c : ℕ) → (c / 64 ≡ number → ⊥) → has_bit after r c ≡ has_bit before r c

-- in all rows the bits of the columns with 0 in a list are taken, of those in the first so many
-- words
pub record ClearsColumns (before after : BitTable) (leaves : List ℕ) (words : ℕ) : Type 0 where
  pub rows : after.rows ≡ before.rows
  pub columns : after.columns ≡ before.columns
  pub done : (r c : ℕ) → r < before.rows → c < before.columns → c < 64 * words → has_bit after r c ≡ (has_bit before r c && not (slice_index leaves c == 0))
  pub rest : (r c : ℕ) → 64 * words ≤ c → has_bit after r c ≡ has_bit before r c

-- the bits of those of the first so many rows that are in the step are those of the cells that are
-- 0, all others are as before
pub record RenewsRows (before after zeros ones : BitTable) (enters ins outs : List ℕ) (count : ℕ) : Type 0 where
  pub rows : after.rows ≡ before.rows
  pub columns : after.columns ≡ before.columns
  pub entered : (r c : ℕ) → r < count → slice_index enters r ≡ 0 → has_bit after r c ≡ is_tight zeros ones ins outs r c
  pub others : (r c : ℕ) → (slice_index enters r ≡ 0 → ⊥) → has_bit after r c ≡ has_bit before r c
  pub rest : (r c : ℕ) → count ≤ r → has_bit after r c ≡ has_bit before r c
