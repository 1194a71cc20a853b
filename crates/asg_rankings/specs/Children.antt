-- Children of an instance by a choice: Murty's parts of the other choices.
use Rattle.std.specs.Prelude.{◌≡◌, ℕ, ◌+◌, ◌==◌, nat_lt, Bool, true, IsTrue, not, if◌then◌else◌, Option, None, List, slice_index_or}
use Rattle.asg_model.specs.Live.{is_active}
use Rattle.asg_model.specs.Problem.{Problem}
use Rattle.asg_model.specs.Retained.{retained}
use Rattle.asg_model.specs.Sums.{count_below}
use Rattle.asg_model.specs.ValidChoice.{takes}

-- the number of an active row: among the active rows in order, counted from 1
abbrev pub row_number : Problem → ℕ → ℕ
row_number X r = count_below (is_active X) r + 1

-- the row at place r is the active row of this number
pub record IsRowNumbered (X : Problem) (number r : ℕ) : Type 0 where
  pub active : IsTrue (is_active X r)
  pub numbered : row_number X r ≡ number

-- the choice gives the row of a cell the cell's column; a cell is named by the places of both
abbrev pub is_chosen : List (Option ℕ) → ℕ × ℕ → Bool
is_chosen f place = takes place.1 (slice_index_or f place.0 None)

-- by branch i a row before number i keeps its chosen cell alone, number i loses it, and each row
-- after it keeps all
abbrev pub is_kept_at : ℕ → ℕ → Bool → Bool
is_kept_at branch number chosen =
    if nat_lt number branch then chosen
    else (if number == branch then not chosen else true)

-- a cell is kept by a branch; cells of rows that aren't active are
abbrev pub is_kept : Problem → List (Option ℕ) → ℕ → ℕ × ℕ → Bool
is_kept X f branch place =
    if is_active X place.0 then is_kept_at branch (row_number X place.0) (is_chosen f place) else true

-- the child of an instance by a choice and a branch: of its active rows in order, those before
-- number `branch` keep only the choice's cell, and number `branch` loses it
abbrev pub child : Problem → List (Option ℕ) → ℕ → Problem
child X f branch = retained X (is_kept X f branch)
