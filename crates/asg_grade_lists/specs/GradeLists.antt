-- Lists of phases of one grade on a square of graded sums.
use Rattle.std.specs.Prelude.{◌≡◌, ℕ, ◌+◌, ◌<◌, ◌≤◌, true, List, [], ◌∷◌, drop, length, map, All, Option, Some, slice_index}
use Rattle.asg_phase_totals.specs.PhaseTotals.{Totals, AreTotals}
use Rattle.asg_monoids.specs.BoundedSums.{bounded_sums, bounded_difference, narrow_top}
use Rattle.asg_monoids.specs.Grades.{graded, graded_difference, graded_word}
use Rattle.asg_order.specs.declared.words.Word.{Word}
use Rattle.asg_proof.specs.GradeAmounts.{IsRisePhase, HasPositiveSteps, cell_amount, graded_phase, of_grade}
use Rattle.asg_proof.specs.Phases.{PhaseOf, entered_at, staying_at, worded}
use Rattle.asg_proof.specs.PromisedProofs.{IsPhaseOver}
use Rattle.asg_replays.specs.WholeLists.{HaveIndex}

-- by graded sums that stop at the top, the words are those of phases of 1 to side steps that are
-- admitted in turn from a square, and the index is the product of all steps
pub record LeadTo (top side : ℕ) (square : ℕ → ℕ → Option (ℕ × ℕ)) (words : List (PhaseOf Word))
    (index : ℕ × ℕ) : Type 0 where
  pub have : HaveIndex (graded (bounded_sums top))
      (graded_difference (bounded_sums top) bounded_difference) graded_word side square index words
  pub sizes : All (IsPhaseOver side) words

-- the amount of a cell at a grade, if it has one, is at most where sums in 64 bits stop, and with
-- the number of its row at least that of its column
abbrev pub EndsWellAt : ℕ → ℕ → ℕ → Option (ℕ × ℕ) → Type 0
EndsWellAt g row column cell =
    (y : ℕ) → cell_amount g cell ≡ Some y → (y ≤ narrow_top) × (column ≤ y + row)

-- each cell of a row does so
abbrev pub RowEndsWell : ℕ → ℕ → ℕ → List ℕ → (ℕ → Option (ℕ × ℕ)) → Type 0
RowEndsWell g side row columns cells =
    (k : ℕ) → k < side → EndsWellAt g row (slice_index columns k) (cells k)

-- each cell of the first so many rows does so
abbrev pub RowsEndWell : ℕ → ℕ → ℕ → List ℕ → List ℕ → (ℕ → ℕ → Option (ℕ × ℕ)) → Type 0
RowsEndWell g side count rows columns square =
    (r : ℕ) → r < count → RowEndsWell g side (slice_index rows r) columns (square r)

-- no cell of a row is of a lower grade in a column that stays at once
abbrev pub NoneLower : ℕ → ℕ → List ℕ → (ℕ → Option (ℕ × ℕ)) → Type 0
NoneLower g side leaves cells =
    (k : ℕ) (x : ℕ × ℕ) → k < side → staying_at leaves 0 k ≡ true → cells k ≡ Some x → g ≤ x.0

-- this is so of the first so many rows, where they enter at once
abbrev pub NoneLowerIn : ℕ → ℕ → ℕ → List ℕ → List ℕ → (ℕ → ℕ → Option (ℕ × ℕ)) → Type 0
NoneLowerIn g side count enters leaves square =
    (r : ℕ) → r < count → entered_at enters 0 r ≡ true → NoneLower g side leaves (square r)

-- the words are those of one step to the grade, and no cell that it is taken from is of a lower one
pub record IsRiseTo (g side : ℕ) (square : ℕ → ℕ → Option (ℕ × ℕ)) (words : PhaseOf Word) : Type 0 where
  pub steps : words.steps ≡ graded_word (g, 0) ∷ []
  pub rises : IsRisePhase g side words.enters words.leaves square

-- the first of the phases is so
pub record BeginWithRise (g side : ℕ) (square : ℕ → ℕ → Option (ℕ × ℕ)) (words : List (PhaseOf Word))
    : Type 0 where
  pub some : 0 < length words
  pub first : PhaseOf Word
  pub split : words ≡ first ∷ drop 1 words
  pub rises : IsRiseTo g side square first

-- the words are those of positive amounts at the grade
pub record AreAmountsAt (g : ℕ) (words : List Word) (amounts : List ℕ) : Type 0 where
  pub written : map graded_word (map (of_grade g) amounts) ≡ words
  pub positive : All (λ c. 0 < c) amounts

-- the words are those of phases of positive amounts at the grade, with 1 to side steps each, and
-- the totals are those of the amounts
pub record AreOfGrade (g side : ℕ) (words : List (PhaseOf Word)) (totals : Totals) : Type 0 where
  pub amounts : List (PhaseOf ℕ)
  pub written : map (worded graded_word) (map (graded_phase g) amounts) ≡ words
  pub positive : All HasPositiveSteps amounts
  pub sizes : All (IsPhaseOver side) words
  pub come : AreTotals amounts totals

-- where phases of the grade come to the first totals, they come to the second with one more before
-- them
abbrev pub TakesIn : ℕ → ℕ → PhaseOf Word → Totals → Totals → Type 0
TakesIn g side words before after =
    (rest : List (PhaseOf Word)) → AreOfGrade g side rest before
    → AreOfGrade g side (words ∷ rest) after
