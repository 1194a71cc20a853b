-- Lower bounds of the sums of answers, by dual variables.
use Rattle.std.specs.Prelude.{◌≡◌, ◌≢◌, ℕ, ◌+◌, ◌-◌, ◌*◌, ◌<◌, ◌≤◌, Some, List, length, slice_index, sum}
use Rattle.asg_model.specs.declared.objectives.Objective.{Objective}
use Rattle.asg_model.specs.Problem.{Problem}
use Rattle.asg_dual_bounds.specs.Numbers.{number_at}
use Rattle.asg_dual_bounds.specs.Parts.{Part, IsAllowed, child_part}

-- dual variables: what a row's sum falls by, what a column's rises by, and what each column's rises
-- by at least
pub record Duals : Type 0 where
  pub falls : List ℕ
  pub rises : List ℕ
  pub floor : ℕ

-- dual variables, one for each row and each column, of which each cell that a part allows is at
-- least what they ask
pub record AreAbove (objective : Objective) (X : Problem) (part : Part) (duals : Duals)
    : Type 0 where
  pub rows : length duals.falls ≡ length X.rows
  pub columns : length duals.rises ≡ length X.columns
  pub cells : (r c x : ℕ) → number_at objective X r c ≡ Some x → IsAllowed part r c
      → slice_index duals.falls r ≤ x + slice_index duals.rises c
  pub floored : (c : ℕ) → c < length X.columns → duals.floor ≤ slice_index duals.rises c

-- b is at most the bound by dual variables, for m columns and n rows: the falls less the rises, and
-- the floor for each column that stays free
abbrev pub IsDualBound : ℕ → ℕ → Duals → ℕ → Type 0
IsDualBound m n duals b = b + sum duals.rises ≤ sum duals.falls + (m - n) * duals.floor

-- what the fall of row k may be raised by in the child by an answer and row k: so much more than
-- what is asked is each cell of the row that the child allows, in columns that no earlier row has
abbrev pub IsRowGap : Objective → Problem → Part → List ℕ → ℕ → Duals → ℕ → Type 0
IsRowGap objective X part answer k duals gap =
    (c x : ℕ) → number_at objective X k c ≡ Some x → IsAllowed (child_part part answer k) k c
    → ((r : ℕ) → r < k → slice_index answer r ≢ c)
    → slice_index duals.falls k + gap ≤ x + slice_index duals.rises c

-- what the rise of the answer's column of row k may be lessened by in that child: so much more than
-- what is asked is each of its cells in a later row, and so much above the floor is its rise
pub record IsColumnGap (objective : Objective) (X : Problem) (answer : List ℕ) (k : ℕ)
    (duals : Duals) (gap : ℕ) : Type 0 where
  pub cells : (j x : ℕ) → k < j → number_at objective X j (slice_index answer k) ≡ Some x
      → slice_index duals.falls j + gap ≤ x + slice_index duals.rises (slice_index answer k)
  pub floored : duals.floor + gap ≤ slice_index duals.rises (slice_index answer k)
