-- Three crews and three duties are the rows and columns of an instance.
use Rattle.std.proofs.Common.{◌≡◌, ◌≤◌, ◌<◌, ◌+◌, ℕ, zero, suc, List, [], ◌∷◌, refl, ap, sym, subst, arith, slice_index_or}
use Rattle.asg_model.proofs.Kit.{All-nil}
use Rattle.asg_model.specs.declared.parts.Column.{Column}
use Rattle.asg_model.specs.declared.parts.Cost.{Cost}
use Rattle.asg_model.specs.declared.parts.Place.TheVariants.{All as PlaceAll}
use Rattle.asg_model.specs.declared.parts.Row.{Row}
use Rattle.asg_model.specs.Instances.{IsCostInRange, IsWellFormed}
use Rattle.asg_model.specs.Limits.{most_side}
use Rattle.asg_model.specs.Problem.{Problem, problem_of}
use Rattle.asg_model.specs.Shapes.{square_side}
use Rattle.asg_caller.specs.Overtime.{crew, duty}

abbrev pub crews : List Row
crews = crew 1 ∷ crew 2 ∷ crew 3 ∷ []

abbrev pub duties : List Column
duties = duty 1 ∷ duty 2 ∷ duty 3 ∷ []

crew_at : (k : ℕ) (d : Row) → k < 3 → slice_index_or crews k d ≡ crew (1 + k)
crew_at zero d within = refl
crew_at (suc zero) d within = refl
crew_at (suc (suc zero)) d within = refl
crew_at (suc (suc (suc k))) d within = absurd (omega (arith, within))

duty_at : (k : ℕ) (d : Column) → k < 3 → slice_index_or duties k d ≡ duty (1 + k)
duty_at zero d within = refl
duty_at (suc zero) d within = refl
duty_at (suc (suc zero)) d within = refl
duty_at (suc (suc (suc k))) d within = absurd (omega (arith, within))

crew_id : (k : ℕ) (d : Row) → k < 3 → (slice_index_or crews k d).id ≡ 1 + k
crew_id k d within = ap (λ row. row.id) (crew_at k d within)

duty_id : (k : ℕ) (d : Column) → k < 3 → (slice_index_or duties k d).id ≡ 1 + k
duty_id k d within = ap (λ column. column.id) (duty_at k d within)

well_formed : IsWellFormed (problem_of crews duties [] PlaceAll)
well_formed = record {
  some_active = omega arith;
  few_rows = omega arith;
  few_columns = omega arith;
  rows_differ = λ i j d before within same.
      absurd (omega (arith, before, within, same, crew_id i d (omega (arith, before, within)), crew_id j d within));
  columns_differ = λ i j d before within same.
      absurd (omega (arith, before, within, same, duty_id i d (omega (arith, before, within)), duty_id j d within));
  capacities = λ k d within. rw (duty_at k d within) (omega arith, omega arith);
  cells_within = All-nil _;
  costs = All-nil (λ cell. IsCostInRange cell.1);
  place_in_range = tt;
}

-- parts that are these crews and duties
module _ (rows : List Row) (columns : List Column) (rows_are : rows ≡ crews) (columns_are : columns ≡ duties) where
  pub are_well_formed : IsWellFormed (problem_of rows columns [] PlaceAll)
  are_well_formed = rw (rows_are, columns_are) well_formed

  side_is_small : (cells : List ((ℕ × ℕ) × Cost)) → square_side (problem_of rows columns cells PlaceAll) ≤ most_side
  side_is_small cells = rw (rows_are, columns_are) (omega arith)

  pub has_small_side : (cells : List ((ℕ × ℕ) × Cost)) (X : Problem) → X ≡ problem_of rows columns cells PlaceAll → square_side X ≤ most_side
  has_small_side cells X is = subst (λ X. square_side X ≤ most_side) (sym is) (side_is_small cells)
