-- The cells that are 0 after steps by 1, by bits and by counts.
use Rattle.std.specs.Prelude.{◌≡◌, ℕ, ◌+◌, ◌*◌, ◌<◌, ◌≤◌, ◌&&◌, ◌||◌, ◌==◌, Bool, not, List, slice_index}
use Rattle.asg_bit_rows.specs.BitTable.{BitTable, has_bit}

-- a cell is 0 after steps: it was 0 and its column is out of as many of them as its row is in, or
-- it was 1 and its column is out of one less
abbrev pub is_tight : BitTable → BitTable → List ℕ → List ℕ → ℕ → ℕ → Bool
is_tight zeros ones ins outs r c =
    (has_bit zeros r c && (slice_index outs c == slice_index ins r))
    || ((has_bit ones r c && not (has_bit zeros r c)) && (slice_index outs c + 1 == slice_index ins r))

-- the same of a row that is in so many steps
abbrev pub tight_bit : BitTable → BitTable → List ℕ → ℕ → ℕ → ℕ → Bool
tight_bit zeros ones outs ins r c =
    (has_bit zeros r c && (slice_index outs c == ins))
    || ((has_bit ones r c && not (has_bit zeros r c)) && (slice_index outs c + 1 == ins))

-- the bits of the first so many words of a row are those of the cells that are 0, all other bits
-- are as before
pub record TightensWords (before after zeros ones : BitTable) (outs : List ℕ) (ins row words : ℕ) : Type 0 where
  pub rows : after.rows ≡ before.rows
  pub columns : after.columns ≡ before.columns
  pub done : (c : ℕ) → c < 64 * words → has_bit after row c
      ≡ ((has_bit zeros row c && (slice_index outs c == ins)) || ((has_bit ones row c && not (has_bit zeros row c)) && (slice_index outs c + 1 == ins)))
  pub rest : (c : ℕ) → 64 * words ≤ c → has_bit after row c ≡ has_bit before row c
  pub others : (r c : ℕ) → (r ≡ row → ⊥) → has_bit after r c ≡ has_bit before r c

-- the bits of the first so many rows are those of the cells that are 0
pub record Tightens (after zeros ones : BitTable) (ins outs : List ℕ) (side count : ℕ) : Type 0 where
  pub rows : after.rows ≡ side
  pub columns : after.columns ≡ side
  pub done : (r c : ℕ) → r < count → has_bit after r c ≡ is_tight zeros ones ins outs r c
