-- The rows that are counted, and the numbers of the square.
use Rattle.std.proofs.Common.{◌≡◌, ℕ, ◌<◌, ◌≤◌, Bool, true, length, get_or, arith, ap, ◌∙◌, map}
use Rattle.std.specs.Prelude.{count_by, nat_lt}
use Rattle.std.specs.List.{range_with_len}
use Rattle.std.proofs.lemmas.Bool.Decides.{Decides-ltb}
use Rattle.std.proofs.lemmas.List.FromFn.{length-map-range_with_len, get_or-map-range_with_len}
use Rattle.asg_model.specs.declared.parts.Place.{Place}
use Rattle.asg_model.specs.declared.parts.Place.TheVariants.{All as PlaceAll, Exactly}
use Rattle.asg_model.specs.Problem.{Problem}
use Rattle.asg_model.specs.Instances.{IsPlaceInRange}
use Rattle.asg_model.specs.Live.{is_active}
use Rattle.asg_model.specs.Counts.{is_counted_by, total_capacity}
use Rattle.asg_model.specs.Shapes.{square_side, side_by}
use Rattle.asg_model.specs.Sums.{sum_below, count_below, one}
use Rattle.asg_model.specs.laws.Counting.{sum_below-same, sum_by-below}
use Rattle.asg_model.specs.laws.Rows.{row-from_active}

-- a counted row is there
pub row-from_counted : (X : Problem) (place : Place) (r : ℕ) → is_counted_by place (is_active X r) (nat_lt r (length X.rows)) ≡ true → r < length X.rows
row-from_counted X PlaceAll r counted = row-from_active X r counted
row-from_counted X (Exactly k) r counted = (Decides-ltb r (length X.rows)).0 counted

-- how many of a list made by places pass
pub count-map : {V : Type 0} (p : V → Bool) (h : ℕ → V) (n : ℕ) (d : V) → count_by p (map h (range_with_len 0 n)) ≡ count_below (λ r. p (h r)) n
count-map p h n d =
    let xs = map h (range_with_len 0 n) in
    let size = length-map-range_with_len h 0 n in
    sum_by-below (λ v. one (p v)) xs d
    ∙ ap (sum_below (λ r. one (p (get_or xs r d)))) size
    ∙ sum_below-same (λ r. one (p (get_or xs r d))) (λ r. one (p (h r))) n (λ r within. ap (λ v. one (p v)) (get_or-map-range_with_len h 0 n r r d within (omega arith)))

-- ---- the numbers of the square

pub rows_within : (X : Problem) → IsPlaceInRange X X.place → length X.rows ≤ square_side X
rows_within X range = within_by X X.place range
  where
    within_by : (X : Problem) (place : Place) → IsPlaceInRange X place → length X.rows ≤ side_by place (length X.rows) (total_capacity X)
    within_by X PlaceAll range = omega arith
    within_by X (Exactly k) range = omega (arith, range.2)

pub copies_within : (X : Problem) → total_capacity X ≤ square_side X
copies_within X = within_by X X.place
  where
    within_by : (X : Problem) (place : Place) → total_capacity X ≤ side_by place (length X.rows) (total_capacity X)
    within_by X PlaceAll = omega arith
    within_by X (Exactly k) = omega arith
