-- Lists of phases of sums, by what they come to for each row and each column.
use Rattle.std.specs.Prelude.{◌≡◌, ◌↔◌, ◌⊎◌, ℕ, ◌+◌, ◌-◌, ◌<◌, ◌≤◌, Bool, IsTrue, List, [], ◌∷◌, length, min, Option, Some, slice_index}
use Rattle.std.specs.List.{sum}
use Rattle.asg_monoids.specs.BoundedSums.{bounded_sums, bounded_difference}
use Rattle.asg_proof.specs.Phases.{PhaseOf, AreAdmittedPhases}
use Rattle.asg_admit.specs.Admission.{AreCounted}
use Rattle.asg_phase_totals.specs.Duals.{sum_before}

-- the sum of the steps before a mark, of all steps where it is past them
abbrev pub sum_to : List ℕ → ℕ → ℕ
sum_to steps mark = sum_before steps (min mark (length steps))

-- by how much phases raise the dual variable of a row: by the steps before its entries
abbrev pub row_raise : List (PhaseOf ℕ) → ℕ → ℕ
row_raise [] r = 0
row_raise (phase ∷ rest) r = sum_to phase.steps (slice_index phase.enters r) + row_raise rest r

-- by how much phases raise the dual variable of a column: by the steps before its leaves
abbrev pub column_raise : List (PhaseOf ℕ) → ℕ → ℕ
column_raise [] k = 0
column_raise (phase ∷ rest) k = sum_to phase.steps (slice_index phase.leaves k) + column_raise rest k

-- the sum of all steps of phases
abbrev pub sum_of_steps : List (PhaseOf ℕ) → ℕ
sum_of_steps [] = 0
sum_of_steps (phase ∷ rest) = sum phase.steps + sum_of_steps rest

-- the lists of a phase are over the rows and the columns of this side, and at each step the rows
-- that have entered and the columns that stay are one more than the side
pub record CountsRight (side : ℕ) (phase : PhaseOf ℕ) : Type 0 where
  pub rows : length phase.enters ≡ side
  pub columns : length phase.leaves ≡ side
  pub counted : AreCounted phase.enters phase.leaves (length phase.steps)

-- no row's dual variable is raised by more than a column's: what the rows still fall is no less
-- than what the columns still rise
abbrev pub RaiseColumnsMore : ℕ → List (PhaseOf ℕ) → Type 0
RaiseColumnsMore side phases =
    (r k : ℕ) → r < side → k < side → row_raise phases r ≤ column_raise phases k

-- each phase counts right, and those after it raise columns more than rows
abbrev pub CountAndRaise : ℕ → List (PhaseOf ℕ) → Type 0
CountAndRaise side [] = Unit {0}
CountAndRaise side (phase ∷ rest) =
    CountsRight side phase × RaiseColumnsMore side rest × CountAndRaise side rest

-- no present cell ends below 0
abbrev pub EndAtLeast0 : ℕ → List (PhaseOf ℕ) → (ℕ → ℕ → Option ℕ) → Type 0
EndAtLeast0 side phases square =
    (r k x : ℕ) → r < side → k < side → square r k ≡ Some x
    → column_raise phases k ≤ x + row_raise phases r

-- no present cell with all steps passes the top
abbrev pub StayBelow : ℕ → ℕ → List (PhaseOf ℕ) → (ℕ → ℕ → Option ℕ) → Type 0
StayBelow top side phases square =
    (r k x : ℕ) → r < side → k < side → square r k ≡ Some x → x + sum_of_steps phases ≤ top

-- a present cell after phases
abbrev pub cell_after_all : List (PhaseOf ℕ) → ℕ → ℕ → ℕ → ℕ
cell_after_all phases r k x = (x + row_raise phases r) - column_raise phases k

-- a number for each row and each column, and one for all
pub record Totals : Type 0 where
  pub rows : List ℕ
  pub columns : List ℕ
  pub sum : ℕ

-- these numbers
abbrev pub totals_of : List ℕ → List ℕ → ℕ → Totals
totals_of rows columns sum = record { rows = rows; columns = columns; sum = sum }

-- the numbers are what phases that count and raise so come to
pub record AreTotals (phases : List (PhaseOf ℕ)) (totals : Totals) : Type 0 where
  pub rows : (r : ℕ) → r < length totals.rows → slice_index totals.rows r ≡ row_raise phases r
  pub columns : (k : ℕ) → k < length totals.rows → slice_index totals.columns k ≡ column_raise phases k
  pub sum : totals.sum ≡ sum_of_steps phases
  pub right : CountAndRaise (length totals.rows) phases

-- no row's number is greater than a column's
abbrev pub AreOrdered : Totals → Type 0
AreOrdered totals =
    (r k : ℕ) → r < length totals.rows → k < length totals.rows
    → slice_index totals.rows r ≤ slice_index totals.columns k

-- a phase can come before those that come to the totals: it counts right, they raise no row's dual
-- variable by more than a column's, and the sum of all steps is at most the bound
pub record CanPrecede (bound : ℕ) (phase : PhaseOf ℕ) (totals : Totals) : Type 0 where
  pub right : CountsRight (length totals.rows) phase
  pub ordered : AreOrdered totals
  pub few : totals.sum + sum phase.steps ≤ bound

-- no present cell passes the bound with the sum of all, and none ends below 0: with the number of
-- its row it is at least that of its column
pub record EndsWell (bound side : ℕ) (square : ℕ → ℕ → Option ℕ) (totals : Totals) : Type 0 where
  pub room : (r k x : ℕ) → r < side → k < side → square r k ≡ Some x → x + totals.sum ≤ bound
  pub ends : (r k x : ℕ) → r < side → k < side → square r k ≡ Some x
      → slice_index totals.columns k ≤ x + slice_index totals.rows r

-- what totals keep: as many columns as rows, no more than the most, none greater than the sum of
-- all, which is at most the bound
pub record KeepsTotals (most bound : ℕ) (totals : Totals) : Type 0 where
  pub few : length totals.rows ≤ most
  pub count : length totals.columns ≡ length totals.rows
  pub rows_within : (r : ℕ) → r < length totals.rows → slice_index totals.rows r ≤ totals.sum
  pub columns_within : (k : ℕ) → k < length totals.rows → slice_index totals.columns k ≤ totals.sum
  pub sum_within : totals.sum ≤ bound

-- the answer tells whether phases are admitted in turn from a square, by sums that stop at any top
-- from the bound on
abbrev pub TellsList : ℕ → ℕ → (ℕ → ℕ → Option ℕ) → List (PhaseOf ℕ) → Bool → Type 0
TellsList bound side square phases told =
    (top : ℕ) → bound ≤ top
    → IsTrue told ↔ AreAdmittedPhases (bounded_sums top) bounded_difference side phases square

-- sums come near the bound: the sum of all steps passes it, or some present cell with it does
abbrev pub IsListNearTop : ℕ → (ℕ → ℕ → Option ℕ) → List (PhaseOf ℕ) → Type 0
IsListNearTop bound square phases =
    (bound < sum_of_steps phases)
    ⊎ ((r : ℕ) × (k : ℕ) × (x : ℕ) × (square r k ≡ Some x) × (bound < x + sum_of_steps phases))

-- no cell ends below 0 of the rows that phases with these totals lower, by the dual variables after
-- them
abbrev pub EndsSegment : ℕ → (ℕ → ℕ → Option ℕ) → List ℕ → List ℕ → Totals → Type 0
EndsSegment side square rows columns totals =
    (r k x : ℕ) → r < side → k < side → square r k ≡ Some x
    → slice_index totals.rows r < totals.sum → slice_index columns k ≤ x + slice_index rows r

-- each number became less by that of another list
pub record IsLoweredBy (part before after : List ℕ) : Type 0 where
  pub count : length after ≡ length before
  pub each : (i : ℕ) → i < length before
      → slice_index after i + slice_index part i ≡ slice_index before i

-- a segment ended well, its phases were taken from the dual variables, and an empty one was begun
pub record IsClosed (side : ℕ) (square : ℕ → ℕ → Option ℕ) (rows columns : List ℕ) (totals : Totals)
    (rows′ columns′ : List ℕ) (totals′ : Totals) : Type 0 where
  pub ends : EndsSegment side square rows columns totals
  pub rows_lowered : IsLoweredBy totals.rows rows rows′
  pub columns_lowered : IsLoweredBy totals.columns columns columns′
  pub empty : AreTotals [] totals′

-- nothing changed of a segment that raises no row by more than a column, or it was closed
abbrev pub IsKeptOrClosed : ℕ → (ℕ → ℕ → Option ℕ) → List ℕ → List ℕ → Totals
    → List ℕ → List ℕ → Totals → Type 0
IsKeptOrClosed side square rows columns totals rows′ columns′ totals′ =
    (AreOrdered totals × (rows′ ≡ rows) × (columns′ ≡ columns) × (totals′ ≡ totals))
    ⊎ IsClosed side square rows columns totals rows′ columns′ totals′
