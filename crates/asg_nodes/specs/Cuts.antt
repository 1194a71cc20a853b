-- Cells that a branch takes out, row by row.
use Rattle.std.specs.Prelude.{◌≡◌, ℕ, ◌/◌, ◌<◌, ◌==◌, ◌&&◌, nat_lt, nat_le, not, Bool, true, if◌then◌else◌, Option, Some, None, List, slice_index_or}
use Rattle.std.specs.Option.{option_map_or}
use Rattle.asg_admit.specs.Reduced.{KeepsLabels}
use Rattle.asg_model.specs.Problem.{Problem}
use Rattle.asg_model.specs.ValidChoice.{takes}
use Rattle.asg_rankings.specs.Children.{row_number, is_chosen}
use Rattle.asg_rankings.specs.Masks.{masked}
use Rattle.asg_bit_rows.specs.BitTable.{BitTable, has_bit, is_from_to}
use Rattle.asg_square.specs.Grid.{Grid, cell_at}
use Rattle.asg_square.specs.Labels.{row_label, column_label}

-- a row keeps the copies of the column that it chooses alone, or loses them; what is no copy of a
-- column stays
abbrev pub keeps_copies : Option ℕ → Bool → Option ℕ → Bool
keeps_copies chosen alone label =
    option_map_or (λ e. if alone then takes e chosen else not (takes e chosen)) label true

-- the column that a column of the square is a copy of
abbrev pub label_in : {V : Type 0} → Grid V → ℕ → Option ℕ
label_in Q k = slice_index_or Q.column_labels k None

-- all cells but one are kept
abbrev pub cuts_cell : ℕ → ℕ → ℕ → ℕ → Bool
cuts_cell row column r k = not ((r == row) && (k == column))

-- all but those of one row at the columns from one on and before another, of the 64 columns of a
-- word
abbrev pub cuts_word : ℕ → ℕ → ℕ → ℕ → ℕ → ℕ → Bool
cuts_word row number from to r k = not ((r == row) && ((k / 64 == number) && is_from_to from to k))

-- all but those of one row at the columns from one on and before another
abbrev pub cuts_between : ℕ → ℕ → ℕ → ℕ → ℕ → Bool
cuts_between row from to r k = not ((r == row) && is_from_to from to k)

-- one row keeps the copies of its column alone, or loses them, and the other rows keep all
abbrev pub cuts_row : {V : Type 0} → Grid V → ℕ → Option ℕ → Bool → ℕ → ℕ → Bool
cuts_row Q row chosen alone r k = if r == row then keeps_copies chosen alone (label_in Q k) else true

-- a row with a number keeps what a branch keeps of it, and the other rows keep all
abbrev pub cuts_numbered : {V : Type 0} → Grid V → ℕ → Option ℕ → ℕ → ℕ → ℕ → ℕ → Bool
cuts_numbered Q row chosen number branch r k =
    if nat_le number branch then cuts_row Q row chosen (nat_lt number branch) r k else true

-- of an active row with a number what is kept while the rows before a branch are fixed
abbrev pub is_fixed_at : ℕ → ℕ → Bool → Bool
is_fixed_at branch number chosen = if nat_lt number branch then chosen else true

abbrev pub fixes_labelled : Problem → List (Option ℕ) → ℕ → Option ℕ → Option ℕ → Bool
fixes_labelled X f branch (Some r) (Some d) = is_fixed_at branch (row_number X r) (is_chosen f (r, d))
fixes_labelled X f branch _ _ = true

-- the cells that are kept while the active rows before number `branch` have their chosen cells
-- alone
abbrev pub fixes_cell : Problem → List (Option ℕ) → ℕ → ℕ → ℕ → Bool
fixes_cell X f branch r k = fixes_labelled X f branch (row_label X r) (column_label X k)

-- the bits tell which cells of a square a test keeps
pub record AreBitsFor (side : ℕ) (keep : ℕ → ℕ → Bool) (B : BitTable) : Type 0 where
  pub rows : B.rows ≡ side
  pub columns : B.columns ≡ side
  pub each : (r k : ℕ) → r < side → k < side → has_bit B r k ≡ keep r k

-- one row keeps these columns, and the other rows are as they were
pub record PutsRow (before after : BitTable) (r : ℕ) (keep : ℕ → Bool) : Type 0 where
  pub rows : after.rows ≡ before.rows
  pub columns : after.columns ≡ before.columns
  pub bits : (s k : ℕ) → k < before.columns → has_bit after s k ≡ (if s == r then keep k else has_bit before s k)

-- the square lost the cells that a test doesn't keep
pub record LosesCells {V : Type 0} (keep : ℕ → ℕ → Bool) (before after : Grid V) : Type 0 where
  pub labels : KeepsLabels before after
  pub cells : (r k : ℕ) → cell_at after r k ≡ masked keep (cell_at before) r k
