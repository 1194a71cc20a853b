-- The columns of a square in the order of their labels, and the copies of a chosen column.
use Rattle.std.specs.Prelude.{◌≡◌, ℕ, ◌≤◌, Bool, true, false, IsTrue, not, nat_lt, Option, Some, None, List, slice_index_or}
use Rattle.asg_model.specs.ValidChoice.{takes}
use Rattle.asg_bit_rows.specs.BitTable.{is_from_to}
use Rattle.asg_kept_cells.specs.declared.copies.Run.{Run}

-- a label is that of a column before a place
abbrev pub is_before : ℕ → Option ℕ → Bool
is_before place None = false
is_before place (Some d) = nat_lt d place

-- columns stand in the order of their labels, those without one at the end: before a column whose
-- label is before a place are others of the kind alone
abbrev pub StandInOrder : List (Option ℕ) → Type 0
StandInOrder labels =
    (place j k : ℕ) → j ≤ k → IsTrue (is_before place (slice_index_or labels k None))
    → IsTrue (is_before place (slice_index_or labels j None))

-- a column with this label is a copy of the chosen column
abbrev pub is_copy : Option ℕ → Option ℕ → Bool
is_copy chosen None = false
is_copy chosen (Some d) = takes d chosen

-- these columns are the copies of the chosen column
pub record AreCopies (labels : List (Option ℕ)) (side : ℕ) (chosen : Option ℕ) (run : Run) : Type 0 where
  pub within : run.to ≤ side
  pub each : (k : ℕ) → is_from_to run.from run.to k ≡ is_copy chosen (slice_index_or labels k None)

-- what is kept where a row keeps the copies of its chosen column alone: these, and what is no copy
-- of a column
abbrev pub keeps_alone : Option ℕ → Option ℕ → Bool
keeps_alone chosen None = true
keeps_alone chosen (Some d) = takes d chosen

-- what is kept where a row loses the copies of its chosen column
abbrev pub keeps_others : Option ℕ → Option ℕ → Bool
keeps_others chosen label = not (is_copy chosen label)
