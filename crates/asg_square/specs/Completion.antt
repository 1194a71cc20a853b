-- The completion of a partial list of columns over the columns that are free.
use Rattle.std.specs.Prelude.{ℕ, Bool, not, eqb, List, get_or, Option, is_some}
use Rattle.std.specs.Option.{unwrap_or}
use Rattle.asg_model.specs.ValidChoice.{takes}
use Rattle.asg_model.specs.Sums.{count_below, passing_below}

-- no row takes the column
abbrev pub is_free : (ℕ → Option ℕ) → ℕ → ℕ → Bool
is_free g n c = eqb (count_below (λ r. takes c (g r)) n) 0

-- the free columns, from the last down
abbrev pub free_columns : (ℕ → Option ℕ) → ℕ → List ℕ
free_columns g n = passing_below (is_free g n) n

-- a row without a column
abbrev pub lacks : (ℕ → Option ℕ) → ℕ → Bool
lacks g r = not (is_some (g r))

-- the column of a row: its own, or of the free columns the one whose number is that of the rows
-- without a column before it
abbrev pub completed : (ℕ → Option ℕ) → ℕ → ℕ → ℕ
completed g n r = unwrap_or (g r) (get_or (free_columns g n) (count_below (lacks g) r) 0)
