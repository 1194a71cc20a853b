-- What a least threshold shows of an instance.
use Rattle.asg_thresh.proofs.Common.{◌≡◌, ℕ, ◌<◌, ◌≤◌, List, length, ℤ, pos, ◌-ℤ◌, ◌≤ℤ◌, ◌<ℤ◌, IsSome, slice_index, unsigned_abs, Some, None, All, Option, sym, refl, ap, ◌∙◌, subst, arith, All-map, by_lt_z, ints, length-map, option_map_or, GivesHallSets, IsHall, most_cost, live_at, Problem, square_side, Objective, Cost, first_part_in_range, square_cell, entered_or_free, Grid, cell_at, IsSquareOf, IsPerm, grade_of, free_grade, no_grade, IsUnder, AreGradesOf, IsAssignmentUpTo, unwrap_or}
use Rattle.asg_model.specs.declared.bands.Band.TheVariants.{Whole, Under, Over}
use Rattle.asg_model.specs.declared.objectives.Objective.TheVariants.{Sum, SumMax, SumPair, Capped, Bottleneck, BottleneckMax, TimeCost, Balanced, Lex}
use Rattle.asg_model.specs.Extremes.{greatest, least}
use Rattle.asg_model.specs.Instances.{IsInstance}
use Rattle.asg_model.specs.ValidChoice.{IsValid}
use Rattle.asg_model.specs.Values.{chosen_cost, costs_of, first_parts, choice_value}
use Rattle.asg_proof.specs.Threshold.{ProvesBelow}
use Rattle.asg_model.specs.Objectives.{IsBottleneck}
use Rattle.asg_match.specs.laws.Choices.{costs_each, costs_some, chosen_live, greatest-le, least-ge, some_cost, if_some, from_if_some}
use Rattle.asg_thresh.proofs.SquareGrades.{IsBandOf, AllowsCells-under}

-- the costs of the cells under a limit
pub IsBandOf-under : (limit : ℕ) → IsBandOf Bottleneck (Under (pos limit -ℤ pos 1000000001)) limit
IsBandOf-under limit cost h = (λ less. grind (arith, ints), λ e. grind (arith, ints))

pub IsBandOf-over : (limit : ℕ) → IsBandOf BottleneckMax (Over (pos 1000000001 -ℤ pos limit)) limit
IsBandOf-over limit cost h = (λ less. grind (arith, ints), λ e. grind (arith, ints))

-- all costs have a grade under that of no cell, and above that of a free one
grade_below : (objective : Objective) (cost : Cost) → unsigned_abs cost.a ≤ most_cost → grade_of objective cost < no_grade
grade_below BottleneckMax cost h = grind (arith, ints)
grade_below Bottleneck cost h = grind (arith, ints)
grade_below _ cost h = grind (arith, ints)

grade_above : (objective : Objective) (cost : Cost) → unsigned_abs cost.a ≤ most_cost → 0 < grade_of objective cost
grade_above BottleneckMax cost h = grind (arith, ints)
grade_above Bottleneck cost h = grind (arith, ints)
grade_above _ cost h = grind (arith, ints)

pub IsBandOf-whole : (objective : Objective) → IsBandOf objective Whole no_grade
IsBandOf-whole objective cost h = (λ _. refl, λ _. grade_below objective cost h)

some_from_grade : (o : Option ℕ) (limit : ℕ) → limit < no_grade → unwrap_or o no_grade ≤ limit → IsSome o
some_from_grade (Some n) limit h upto = refl
some_from_grade None limit h upto = absurd (omega arith)

module _ (X : Problem) (objective : Objective) (Q : Grid ℕ) (grades : List ℕ) (i : IsInstance X) (square : IsSquareOf X free_grade (grade_of objective) Q) (made : AreGradesOf Q grades) where
  -- where even all cells have deficient rows, a Hall set of the instance
  pub IsHall-whole : (ids : List ℕ) → GivesHallSets X (IsUnder grades Q.side no_grade) ids → IsHall X Whole ids
  IsHall-whole ids gives =
      gives X Whole refl refl refl (AllowsCells-under objective Whole no_grade (IsBandOf-whole objective) (omega arith) (omega arith) X (first_part_in_range X i) Q grades square made)

  module _ (perm : List ℕ) (limit : ℕ) (within : limit < no_grade) (a : IsAssignmentUpTo grades Q.side limit perm) where
    pub IsPerm-upto : IsPerm Q perm
    IsPerm-upto =
        record {
          over = a.over;
          apart = a.apart;
          present = λ r h.
              let cell = a.cells r h in
              some_from_grade (cell_at Q r (slice_index perm r)) limit within
              (subst (λ n. n ≤ limit) (made.cells r (slice_index perm r) cell.row cell.column) cell.grade);
        }

    module _ (f : List (Option ℕ)) (valid : IsValid X f) (rows_within : length X.rows ≤ square_side X) (values : (r : ℕ) → r < square_side X → square_cell X free_grade (grade_of objective) r (slice_index perm r) ≡ Some (entered_or_free X free_grade (grade_of objective) f r)) where
      -- each chosen cost has a grade of at most the limit
      grade_upto : (r : ℕ) (cost : Cost) → r < length f → chosen_cost X f r ≡ Some cost → grade_of objective cost ≤ limit
      grade_upto r cost h chosen =
          let row : r < square_side X = omega (arith, valid.over, rows_within) in
          let side : r < Q.side = subst (λ n. r < n) (sym square.labels.side) row in
          let cell = a.cells r side in
          let value = square.cells r (slice_index perm r) ∙ values r row ∙ ap (λ o. Some (option_map_or (grade_of objective) o free_grade)) chosen in
          subst (λ n. n ≤ limit) (made.cells r (slice_index perm r) cell.row cell.column ∙ ap (λ o. unwrap_or o no_grade) value) cell.grade

      cost_at_row : (r : ℕ) (cost : Cost) → chosen_cost X f r ≡ Some cost → unsigned_abs cost.a ≤ most_cost
      cost_at_row r cost chosen =
          let live = chosen_live X f r cost chosen in
          from_if_some (λ c. unsigned_abs c.a ≤ most_cost) (live_at X r live.0) cost live.1 (first_part_in_range X i r live.0)

      -- so the limit isn't that of a free cell
      pub limit_some : 0 < limit
      limit_some =
          let at = some_cost X f i valid in
          let upto = grade_upto at.0 at.1 at.2 at.3 in
          let above = grade_above objective at.1 (cost_at_row at.0 at.1 at.3) in
          omega (arith, upto, above)

      pub grades_upto : (P : Cost → Type 0) → ((cost : Cost) → unsigned_abs cost.a ≤ most_cost → grade_of objective cost ≤ limit → P cost) → All P (costs_of X f)
      grades_upto P show =
          costs_each X f P
          (λ r h. if_some P (chosen_cost X f r) (λ cost chosen. show cost (cost_at_row r cost chosen) (grade_upto r cost h chosen)))

-- the greatest of the chosen costs is that of the limit, and the rows prove it
proves_least : (X : Problem) (Q : Grid ℕ) (grades perm : List ℕ) (limit : ℕ) (f : List (Option ℕ)) (ids : List ℕ) → IsInstance X → IsSquareOf X free_grade (grade_of Bottleneck) Q → AreGradesOf Q grades → limit < no_grade → IsAssignmentUpTo grades Q.side limit perm → IsValid X f → length X.rows ≤ square_side X → ((r : ℕ) → r < square_side X → square_cell X free_grade (grade_of Bottleneck) r (slice_index perm r) ≡ Some (entered_or_free X free_grade (grade_of Bottleneck) f r)) → GivesHallSets X (IsUnder grades Q.side limit) ids → ((b : ℤ) → IsHall X (Under b) ids → greatest (first_parts (costs_of X f)) <ℤ b → ⊥) → IsHall X (Under (greatest (first_parts (costs_of X f)))) ids
proves_least X Q grades perm limit f ids i square made within a valid rows values gives law =
    let b = pos limit -ℤ pos 1000000001 in
    let most = greatest (first_parts (costs_of X f)) in
    let some = limit_some X Bottleneck Q grades i square made perm limit within a f valid rows values in
    let hall = gives X (Under b) refl refl refl (AllowsCells-under Bottleneck (Under b) limit (IsBandOf-under limit) some (omega arith) X (first_part_in_range X i) Q grades square made) in
    let upto : most ≤ℤ b =
    greatest-le (first_parts (costs_of X f)) b (subst (λ n. 0 < n) (sym (length-map (costs_of X f) (λ cost. cost.a))) (costs_some X f i valid))
    (All-map (λ x. x ≤ℤ b) (λ cost. cost.a) (costs_of X f)
    (grades_upto X Bottleneck Q grades i square made perm limit within a f valid rows values (λ cost. cost.a ≤ℤ b) (λ cost h upto. grind (arith, ints)))) in
    let same : b ≡ most = by_lt_z most b (λ less. absurd (law b hall less)) (λ from. omega (arith, ints)) in
    subst (λ v. IsHall X (Under v) ids) same hall

proves_greatest : (X : Problem) (Q : Grid ℕ) (grades perm : List ℕ) (limit : ℕ) (f : List (Option ℕ)) (ids : List ℕ) → IsInstance X → IsSquareOf X free_grade (grade_of BottleneckMax) Q → AreGradesOf Q grades → limit < no_grade → IsAssignmentUpTo grades Q.side limit perm → IsValid X f → length X.rows ≤ square_side X → ((r : ℕ) → r < square_side X → square_cell X free_grade (grade_of BottleneckMax) r (slice_index perm r) ≡ Some (entered_or_free X free_grade (grade_of BottleneckMax) f r)) → GivesHallSets X (IsUnder grades Q.side limit) ids → ((b : ℤ) → IsHall X (Over b) ids → b <ℤ least (first_parts (costs_of X f)) → ⊥) → IsHall X (Over (least (first_parts (costs_of X f)))) ids
proves_greatest X Q grades perm limit f ids i square made within a valid rows values gives law =
    let b = pos 1000000001 -ℤ pos limit in
    let fewest = least (first_parts (costs_of X f)) in
    let some = limit_some X BottleneckMax Q grades i square made perm limit within a f valid rows values in
    let hall = gives X (Over b) refl refl refl (AllowsCells-under BottleneckMax (Over b) limit (IsBandOf-over limit) some (omega arith) X (first_part_in_range X i) Q grades square made) in
    let from : b ≤ℤ fewest =
    least-ge (first_parts (costs_of X f)) b (subst (λ n. 0 < n) (sym (length-map (costs_of X f) (λ cost. cost.a))) (costs_some X f i valid))
    (All-map (λ x. b ≤ℤ x) (λ cost. cost.a) (costs_of X f)
    (grades_upto X BottleneckMax Q grades i square made perm limit within a f valid rows values (λ cost. b ≤ℤ cost.a) (λ cost h upto. grind (arith, ints)))) in
    let same : b ≡ fewest = by_lt_z b fewest (λ more. absurd (law b hall more)) (λ upto. omega (arith, ints)) in
    subst (λ v. IsHall X (Over v) ids) same hall

-- the laws of the two objectives
abbrev pub LeastLaw : Problem → List (Option ℕ) → List ℕ → Type 0
LeastLaw X f ids = (b : ℤ) → IsHall X (Under b) ids → greatest (first_parts (costs_of X f)) <ℤ b → ⊥

abbrev pub GreatestLaw : Problem → List (Option ℕ) → List ℕ → Type 0
GreatestLaw X f ids = (b : ℤ) → IsHall X (Over b) ids → b <ℤ least (first_parts (costs_of X f)) → ⊥

-- the rows under the limit prove the value of the choice
pub ProvesBelow-least : (objective : Objective) (X : Problem) (Q : Grid ℕ) (grades perm : List ℕ) (limit : ℕ) (f : List (Option ℕ)) (ids : List ℕ) → IsBottleneck objective → IsInstance X → IsSquareOf X free_grade (grade_of objective) Q → AreGradesOf Q grades → limit < no_grade → IsAssignmentUpTo grades Q.side limit perm → IsValid X f → length X.rows ≤ square_side X → ((r : ℕ) → r < square_side X → square_cell X free_grade (grade_of objective) r (slice_index perm r) ≡ Some (entered_or_free X free_grade (grade_of objective) f r)) → GivesHallSets X (IsUnder grades Q.side limit) ids → LeastLaw X f ids → GreatestLaw X f ids → ProvesBelow objective X (choice_value objective X f) ids
ProvesBelow-least Bottleneck X Q grades perm limit f ids word i square made within a valid rows values gives low high = proves_least X Q grades perm limit f ids i square made within a valid rows values gives low
ProvesBelow-least BottleneckMax X Q grades perm limit f ids word i square made within a valid rows values gives low high = proves_greatest X Q grades perm limit f ids i square made within a valid rows values gives high
ProvesBelow-least Sum X Q grades perm limit f ids word i square made within a valid rows values gives low high = absurd (cc)
ProvesBelow-least SumMax X Q grades perm limit f ids word i square made within a valid rows values gives low high = absurd (cc)
ProvesBelow-least SumPair X Q grades perm limit f ids word i square made within a valid rows values gives low high = absurd (cc)
ProvesBelow-least (Capped cap) X Q grades perm limit f ids word i square made within a valid rows values gives low high = absurd (cc)
ProvesBelow-least TimeCost X Q grades perm limit f ids word i square made within a valid rows values gives low high = absurd (cc)
ProvesBelow-least Balanced X Q grades perm limit f ids word i square made within a valid rows values gives low high = absurd (cc)
ProvesBelow-least Lex X Q grades perm limit f ids word i square made within a valid rows values gives low high = absurd (cc)
