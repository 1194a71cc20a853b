-- Cells that are read many at a time: words of the reader of cells, on which `reading_of` doesn't
-- stand.
use Rattle.std.specs.Prelude.{◌≡◌, ℕ, ◌<◌, ◌≤◌, ℤ, pos, true, List, length, Option, slice_index}
use Rattle.std.specs.Char.{is_ascii_digit}
use Rattle.std.specs.Int.{bit_at}
use Rattle.asg_model.specs.declared.parts.Cost.{Cost}
use Rattle.asg_tokens.specs.NextCells.{IsCell}
use Rattle.asg_tokens.specs.Pieces.{tokens}
use Rattle.asg_tokens.specs.Slots.{first_part, second_part, AreRead}

-- of the first 64 bytes of a text, from a place on, those whose bits are 0 are digits
abbrev pub AreDigitsFrom : ℕ → List ℕ → ℕ → Type 0
AreDigitsFrom start text others =
    (k : ℕ) → start ≤ k → k < 64 → bit_at others k ≡ 0 → is_ascii_digit (slice_index text k) ≡ true

-- the first token of a text is a cell without a second part, or an absent one; its first part stands
-- in a table, and this is the text behind it
pub record IsPlainCell (text : List ℕ) (first : ℤ) (rest : List ℕ) : Type 0 where
  pub cost : Option Cost
  pub is_first : first ≡ first_part cost
  pub no_second : second_part cost ≡ pos 0
  pub is_cell : (place : ℕ) → IsCell place text cost rest

-- the cells of a table that a text begins with are read further, from one place up to another, and
-- this is the text behind them: whatever was read before them
pub record AreReadOn (text rest : List ℕ) (from upto : ℕ) (old new : List ℤ) : Type 0 where
  pub forward : from ≤ upto
  pub within : upto ≤ length new
  pub room : length new ≡ length old
  pub read : (place : ℕ) (all : List (List ℕ)) (seconds : List ℤ)
      → AreRead place all (tokens text) from old seconds
      → AreRead place all (tokens rest) upto new seconds

-- the cells of a table that a text begins with are read further, into both lists of parts
pub record ArePairsReadOn (text rest : List ℕ) (from upto : ℕ) (old_firsts firsts old_seconds seconds : List ℤ)
    : Type 0 where
  pub forward : from ≤ upto
  pub within : upto ≤ length firsts
  pub room : length firsts ≡ length old_firsts
  pub whole : length seconds ≡ length old_seconds
  pub read : (place : ℕ) (all : List (List ℕ))
      → AreRead place all (tokens text) from old_firsts old_seconds
      → AreRead place all (tokens rest) upto firsts seconds
