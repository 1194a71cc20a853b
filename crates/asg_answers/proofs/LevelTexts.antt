-- The levels that prove a choice, and its costs, can be written.
use Rattle.asg_answers.proofs.Common.{◌≡◌, ℕ, zero, suc, ◌+◌, ◌^◌, ◌<◌, ◌≤◌, Bool, true, false, cond, ◌&&◌, List, [], ◌∷◌, length, get_or, ℤ, is_some, nat_lt, int_lt, FitsSigned, None, All, sum_by, count_by, Option, sym, refl, subst, arith, ltb-true, All-cons, All-nil, and_parts, false≢true, fits_signed_from_abs, get_or_default, length-map, sum_by-cons, HasPhaseText, HaveLevelText, placed, total_capacity, descending, with_descending, IsInstance, IsPlaceInRange, most_side, Problem, side_by, square_side, IsValid, IsPartInRange, costs_of, first_parts, Whole, Place, Word, AreLevelsFrom, IsLeftAssignment, ProvesLevels, left_after, left_last, PhaseOf, AreFewLevels, IsUnitPhase, Level}
use Rattle.std.specs.Int.{w64}
use Rattle.asg_order.specs.laws.ChosenCosts.{length-costs_of}
use Rattle.asg_proof.specs.ColumnLists.{ArePlaces}
use Rattle.asg_proof.specs.LevelLists.{AreLevelParts}
use Rattle.asg_proof.specs.LevelRows.{most_level_rows}
use Rattle.asg_square.specs.Cells.{square_cell}
use Rattle.asg_square.specs.Presence.{has_cell}
use Rattle.asg_grammar.specs.Spellings.{IsListOf}
use Rattle.asg_model.specs.declared.parts.Place.TheVariants.{All as PlaceAll, Exactly}

-- ---- a value that lists costs

with_some : (x y : ℤ) (ys : List ℤ) (c : Bool) → 0 < length (cond c (x ∷ (y ∷ ys)) (y ∷ with_descending x ys))
with_some x y ys true = omega arith
with_some x y ys false = omega arith

descending_some : (xs : List ℤ) → 0 < length xs → 0 < length (descending xs)
descending_some [] some = absurd (omega (arith, some))
descending_some (x ∷ xs) some = by (descending xs)
  where
    by : (ys : List ℤ) → 0 < length (with_descending x ys)
    by [] = omega arith
    by (y ∷ ys) = with_some x y ys (int_lt y x)

-- the costs of a valid choice, where it has some, can be written
pub costs_written : (X : Problem) (f : List (Option ℕ)) (xs : List ℤ) → IsValid X f → 0 < count_by is_some f → xs ≡ descending (first_parts (costs_of X f)) → All IsPartInRange xs → IsListOf (FitsSigned w64) xs
costs_written X f xs valid some is within = record {
  some = subst (λ ys. 0 < length ys) (sym is)
      (descending_some (first_parts (costs_of X f)) (omega (arith, some, valid.counted, length-costs_of X f valid, length-map (costs_of X f) (λ cost. cost.a))));
  each = λ k d h. fits_signed_from_abs w64 (get_or xs k d) (let near = within k d h in omega (arith, near));
}

-- ---- levels

-- the square of an instance has a row
pub side_some : (X : Problem) → IsInstance X → 0 < length X.rows → 0 < square_side X
side_some X instance some = by X.place instance.well_formed.place_in_range
  where
    by : (place : Place) → IsPlaceInRange X place → 0 < side_by place (length X.rows) (total_capacity X)
    by PlaceAll within = omega (arith, some)
    by (Exactly k) within = omega (arith, some, within.0, within.1, within.2)

-- a phase of one step by 1 can be written
unit_text : (side : ℕ) (phase : PhaseOf Word) → 0 < side → IsUnitPhase side phase → All (λ t. t < 2 ^ 32) phase.enters → All (λ t. t < 2 ^ 32) phase.leaves → HasPhaseText false phase
unit_text side phase some unit enters leaves = record {
  steps = subst (IsListOf (λ (step : Word). (step.grade ≡ 0) × (step.amount < 2 ^ 128))) (sym unit.step)
      (record {
        some = omega arith;
        each = All-cons (λ (step : Word). (step.grade ≡ 0) × (step.amount < 2 ^ 128)) (record { grade = 0; amount = 1 }) [] (refl, omega arith)
            (All-nil (λ (step : Word). (step.grade ≡ 0) × (step.amount < 2 ^ 128)));
      });
  enters = record { some = omega (arith, unit.enters, some); ids = enters };
  leaves = record { some = omega (arith, unit.leaves, some); ids = leaves };
}

-- a number of a list is no more than all of them
one_of_sum : (levels : List Level) (k : ℕ) (d : Level) → k < length levels → (get_or levels k d).count ≤ sum_by (λ (level : Level). level.count) levels
one_of_sum [] k d h = absurd (omega (arith, h))
one_of_sum (x ∷ xs) zero d h = omega (arith, sum_by-cons (λ (level : Level). level.count) x xs)
one_of_sum (x ∷ xs) (suc k) d h = omega (arith, sum_by-cons (λ (level : Level). level.count) x xs, one_of_sum xs k d (omega (arith, h)))

-- where each level counts a cell there are no more levels than cells
few_levels : (X : Problem) (perm : List ℕ) (before : Option ℤ) (left : ℕ → ℕ → Bool) (levels : List Level) → AreLevelsFrom X perm before left levels → length levels ≤ sum_by (λ (level : Level). level.count) levels
few_levels X perm before left [] all = omega arith
few_levels X perm before left (x ∷ xs) all =
    let rest = few_levels X perm _ (left_after X before left x) xs all.1 in
    omega (arith, rest, all.0.proved.some, sum_by-cons (λ (level : Level). level.count) x xs)

if_some : {V : Type 0} (b : Bool) (o : Option V) → is_some (cond b o None) ≡ true → (b ≡ true) × (is_some o ≡ true)
if_some true o e = (refl, e)
if_some false o e = absurd (false≢true e)

-- the columns of an assignment are below the side
below_side : (X : Problem) (perm : List ℕ) (levels : List Level) → IsLeftAssignment X perm levels → (k d : ℕ) → k < length perm → get_or perm k d < square_side X
below_side X perm levels a k d h =
    let c = get_or perm k 0 in
    let left = if_some (left_last X None (has_cell X Whole) levels k c) (square_cell X false (λ cost. true) k c) (a.present k (subst (λ n. k < n) a.over h)) in
    let inside = if_some (nat_lt k (square_side X) && nat_lt c (square_side X)) _ left.1 in
    subst (λ n. n < square_side X) (get_or_default perm k 0 d h) (ltb-true c (square_side X) (and_parts (nat_lt k (square_side X)) (nat_lt c (square_side X)) inside.0).1)

-- levels that are promised can be written
pub HaveLevelText-promised : (X : Problem) (choice : List (Option ℕ)) (perm : List ℕ) (levels : List Level) → IsInstance X → square_side X ≤ most_side → 0 < placed X → 0 < length X.rows → ProvesLevels X choice perm levels
    → length perm ≡ square_side X → AreFewLevels (square_side X) most_level_rows levels → ArePlaces perm → AreLevelParts levels → HaveLevelText perm levels
HaveLevelText-promised X choice perm levels instance within places rows proves count few columns parts = record {
  columns = record {
    some = omega (arith, count, side_some X instance rows);
    each = λ k d h. column k d h;
  };
  some = some_level levels (omega (arith, proves.total, places));
  few = omega (arith, few_levels X perm _ _ levels proves.levels_hold, few.few);
  each = λ k d h.
      let unit = few.each k d h in
      let part = parts k d h in
      record {
        cost_fits = part.cost_fits;
        count_fits = part.count_fits;
        phases = record {
          few = omega (arith, unit.count, one_of_sum levels k d h, few.few);
          each = λ j p below. unit_text (square_side X) _ (side_some X instance rows) (unit.each j p below) (part.phases_are j p below).enters_below (part.phases_are j p below).leaves_below;
        };
      };
}
  where
    some_level : (ls : List Level) → 0 < sum_by (λ (level : Level). level.count) ls → 0 < length ls
    some_level [] h = absurd (omega (arith, h))
    some_level (x ∷ xs) h = omega arith

    column : (k d : ℕ) → k < length perm → get_or perm k d + 1 < 2 ^ 32
    column k d h = omega (arith, below_side X perm levels proves.assignment k d h, within)
