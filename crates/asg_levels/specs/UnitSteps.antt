-- Steps by 1 on a square of cells that are 0 or 1, by how many of them each row is in and each
-- column is out of.
use Rattle.std.specs.Prelude.{◌≡◌, ℕ, ◌+◌, ◌<◌, ◌≤◌, ◌||◌, ◌==◌, true, if◌then◌else◌, List, [], ◌∷◌, length, Option, Some, None, is_some, slice_index}
use Rattle.asg_proof.specs.Phases.{PhaseOf, phase_of, entered_at, staying_at}
use Rattle.asg_proof.specs.Steps.{count_below}
use Rattle.asg_bit_rows.specs.BitTable.{BitTable, has_bit}
use Rattle.asg_levels.specs.Tight.{is_tight}

-- the square of these bits: 0 at those of the one, 1 at those of the other
abbrev pub bit_square : BitTable → BitTable → ℕ → ℕ → Option ℕ
bit_square zeros ones r c = if has_bit zeros r c then Some 0 else if has_bit ones r c then Some 1 else None

-- rows of bits of a square
pub record IsBitSquare (side : ℕ) (bits : BitTable) : Type 0 where
  pub rows : bits.rows ≡ side
  pub columns : bits.columns ≡ side
  pub inside : (r c : ℕ) → has_bit bits r c ≡ true → (r < side) × (c < side)

-- one step by 1
abbrev pub unit_phase : List ℕ → List ℕ → PhaseOf ℕ
unit_phase enters leaves = phase_of (1 ∷ []) enters leaves

-- a cell of the square is there where one of the bits is; it is 0 or 1 by the bit, and one more for
-- each step that its column is out of, one less for each that its row is in; none is in or out of
-- more than so many
pub record AreDuals (side count : ℕ) (zeros ones : BitTable) (ins outs : List ℕ) (square : ℕ → ℕ → Option ℕ) : Type 0 where
  pub there : (r c : ℕ) → is_some (square r c) ≡ (has_bit zeros r c || has_bit ones r c)
  pub value : (r c x : ℕ) → square r c ≡ Some x → x + slice_index ins r ≡ (if has_bit zeros r c then 0 else 1) + slice_index outs c
  pub few_ins : (r : ℕ) → r < side → slice_index ins r ≤ count
  pub few : (c : ℕ) → slice_index outs c ≤ count

-- one more at the rows that are in the step and at the columns that are out of it
pub record CountsStep (side : ℕ) (enters leaves ins outs ins_after outs_after : List ℕ) : Type 0 where
  pub rows : (r : ℕ) → r < side → slice_index ins_after r ≡ slice_index ins r + (if slice_index enters r == 0 then 1 else 0)
  pub columns : (c : ℕ) → c < side → slice_index outs_after c ≡ slice_index outs c + (if slice_index leaves c == 0 then 1 else 0)
  pub rest : (c : ℕ) → side ≤ c → slice_index outs_after c ≡ slice_index outs c

-- the lists are over the rows and the columns of this side, and at the first step the rows that
-- have entered and the columns that stay are one more than it
pub record CountsRight (side : ℕ) (enters leaves : List ℕ) : Type 0 where
  pub rows : length enters ≡ side
  pub columns : length leaves ≡ side
  pub count : count_below (entered_at enters 0) side + count_below (staying_at leaves 0) side ≡ side + 1

-- no cell of the first so many rows that is 0 has a row that has entered and a column that stays
abbrev pub AreFree : BitTable → BitTable → List ℕ → List ℕ → List ℕ → List ℕ → ℕ → ℕ → Type 0
AreFree zeros ones ins outs enters leaves side rows =
    (r c : ℕ) → r < rows → c < side → entered_at enters 0 r ≡ true → staying_at leaves 0 c ≡ true
    → is_tight zeros ones ins outs r c ≡ true → ⊥
