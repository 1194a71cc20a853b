-- Phases of one step, on the cells of a square.
use Rattle.std.specs.Prelude.{◌≡◌, ℕ, ◌<◌, Option, Some, List, slice_index}
use Rattle.asg_order.specs.Monoid.{Monoid, IsLe}
use Rattle.asg_square.specs.Grid.{Grid, cell_at}

-- a step is at most a cell, if it is present
abbrev pub IsAtMostCell : {V : Type 0} → Monoid V → V → Option V → Type 0
IsAtMostCell {V} M c cell = (x : V) → cell ≡ Some x → IsLe M c x

-- and each present cell of a column in the rows that enter at the first step
abbrev pub AllowsColumn : {V : Type 0} → Monoid V → V → List ℕ → Grid V → ℕ → Type 0
AllowsColumn M c enters Q k =
    (r : ℕ) → r < Q.side → slice_index enters r ≡ 0 → IsAtMostCell M c (cell_at Q r k)

-- and those of all columns that stay there
abbrev pub AllowsColumns : {V : Type 0} → Monoid V → V → List ℕ → List ℕ → Grid V → Type 0
AllowsColumns M c enters leaves Q =
    (k : ℕ) → k < Q.side → 0 < slice_index leaves k → AllowsColumn M c enters Q k
