-- What a live cell has: an active row and an open column that are there, and a cost in range.
use Rattle.std.proofs.Common.{unsigned_abs, ◌≤◌, ◌≡◌, ℕ, ◌<◌, true, false, ◌&&◌, length, IsSome, IfSome, Some, sym, ap, ◌∙◌, subst, ⊎_elim}
use Rattle.std.proofs.lemmas.Bool.{and_parts, cases_lt, false≢true}
use Rattle.std.specs.Option.{option_map_or}
use Rattle.std.proofs.lemmas.Option.{slice_get_past}
use Rattle.asg_model.specs.Limits.{most_cost}
use Rattle.asg_model.specs.Instances.{IsCostInRange, IsInstance}
use Rattle.asg_model.specs.Live.{cost_at, is_active, is_open, live_at}
use Rattle.asg_model.specs.Problem.{Problem}
use Rattle.asg_model.specs.declared.parts.Cost.{Cost}
use Rattle.asg_model.specs.laws.Rows.{cost_at-All}
use Rattle.asg_values.specs.laws.Options.{some_there, there_where}

-- an open column is there
pub column-from_open : (X : Problem) (c : ℕ) → is_open X c ≡ true → c < length X.columns
column-from_open X c usable =
    ⊎_elim
    (λ (within : c < length X.columns). within)
    (λ (past : length X.columns ≤ c).
    absurd (false≢true (sym (ap (λ o. option_map_or (λ column. column.usable) o false) (slice_get_past X.columns c past)) ∙ usable)))
    (cases_lt c (length X.columns))

-- a live cell stands in an active row and an open column, and has a cost
pub live_cell : (X : Problem) (r c : ℕ) (x : Cost) → live_at X r c ≡ Some x → (is_active X r ≡ true) × (is_open X c ≡ true) × (cost_at X.cells r c ≡ Some x)
live_cell X r c x live =
    let parts = there_where (is_active X r && is_open X c) (cost_at X.cells r c) x live in
    let both = and_parts (is_active X r) (is_open X c) parts.0 in
    (both.0, both.1, parts.1)

-- so its column is there
pub column_of_live : (X : Problem) (r c : ℕ) (x : Cost) → live_at X r c ≡ Some x → c < length X.columns
column_of_live X r c x live = column-from_open X c (live_cell X r c x live).1

-- and its cost is in range
pub range_of_live : (X : Problem) → IsInstance X → (r c : ℕ) (x : Cost) → live_at X r c ≡ Some x → IsCostInRange x
range_of_live X instance r c x live =
    subst (λ o. IfSome o IsCostInRange) (live_cell X r c x live).2 (cost_at-All IsCostInRange X.cells r c instance.well_formed.costs)

pub first_of_live : (X : Problem) → IsInstance X → (r c : ℕ) (x : Cost) → live_at X r c ≡ Some x → unsigned_abs x.a ≤ most_cost
first_of_live X instance r c x live = let range = range_of_live X instance r c x live in range.a_in_range

-- the same where a test says that a cell is live
pub open-from_live : (X : Problem) (r c : ℕ) → IsSome (live_at X r c) → is_open X c ≡ true
open-from_live X r c live = let x = some_there (live_at X r c) live in (live_cell X r c x.0 x.1).1

pub column-from_live : (X : Problem) (r c : ℕ) → IsSome (live_at X r c) → c < length X.columns
column-from_live X r c live = column-from_open X c (open-from_live X r c live)
