-- How much a ranking takes, by its work.
use Rattle.asg_rank.proofs.Common.{◌≡◌, ℕ, ◌+◌, ◌-◌, ◌*◌, ◌^◌, ◌<◌, ◌≤◌, length, sym, ap, subst, mul-le-mul_right, mul-le-mul_left, arith, count_by-le-length, active_count, total_capacity, placed, placed_by, IsInstance, IsPlaceInRange, Problem, square_side, side_by, ranking_work, answer_room}
use Rattle.asg_model.specs.declared.parts.Place.{Place}
use Rattle.asg_model.specs.declared.parts.Row.{Row}
use Rattle.asg_nodes.specs.laws.EntryLists.{add_one_times}
use Rattle.asg_model.specs.declared.parts.Place.TheVariants.{All as PlaceAll, Exactly}

module _ (X : Problem) (instance : IsInstance X) where
  -- no more rows are placed than there are
  pub placed_few : placed X ≤ length X.rows
  placed_few = by X.place instance.well_formed.place_in_range
    where
      by : (place : Place) → IsPlaceInRange X place → placed_by place (active_count X) ≤ length X.rows
      by PlaceAll range = count_by-le-length (λ (row : Row). row.active) X.rows
      by (Exactly k) range = range.1

  -- nor are there more than the side
  pub rows_few : length X.rows ≤ square_side X
  rows_few = by X.place instance.well_formed.place_in_range
    where
      by : (place : Place) → IsPlaceInRange X place → length X.rows ≤ side_by place (length X.rows) (total_capacity X)
      by PlaceAll range = omega arith
      by (Exactly k) range = let few = range.1 in let held = range.2 in omega (arith, few, held)

  pub rows_some : 1 ≤ length X.rows
  rows_some =
      let some = instance.well_formed.some_active in
      let few = count_by-le-length (λ (row : Row). row.active) X.rows in
      omega (arith, some, few)

  module _ (room : ℕ) (fits : ranking_work X room ≤ 4000000) where
    -- the children of so many answers
    pub children_fit : room * placed X ≤ 4000000
    children_fit =
        let side : 1 ≤ square_side X = (let some = rows_some in let few = rows_few in omega (arith, some, few)) in
        let by_rows = mul-le-mul_left room placed_few in
        let by_side = mul-le-mul_left (room * length X.rows) side in
        omega (arith, by_rows, by_side, fits)

    -- and one more
    pub few_children : (children : ℕ) → children ≡ placed X → room * children + 1 < 2 ^ 32
    few_children children is =
        let times : room * children ≡ room * placed X = ap (λ n. room * n) is in
        let fit = children_fit in
        omega (arith, times, fit)

    -- and their Hall sets
    pub halls_fit : (room * placed X + 1) * length X.rows ≤ 4000000 + length X.rows
    halls_fit =
        let by_rows = mul-le-mul_right (length X.rows) (mul-le-mul_left room placed_few) in
        let by_side = mul-le-mul_left (room * length X.rows) rows_few in
        let times = add_one_times (room * placed X) (length X.rows) in
        omega (arith, by_rows, by_side, times, fits)

    -- and the ids of those
    pub few_nodes : (nodes rows : ℕ) → nodes ≡ room * placed X + 1 → rows ≡ length X.rows → nodes * rows < 2 ^ 32
    few_nodes nodes rows is are =
        let same : nodes * rows ≡ (room * placed X + 1) * length X.rows = (λ i. is i * are i) in
        let fit = halls_fit in
        let few = instance.well_formed.few_rows in
        let ids : (room * placed X + 1) * length X.rows < 2 ^ 32 = omega (arith, fit, few) in
        subst (λ n. n < 2 ^ 32) (sym same) ids

-- less is asked for by fewer
pub work_upto : (X : Problem) (room count : ℕ) → room ≤ count → ranking_work X room ≤ ranking_work X count
work_upto X room count few = mul-le-mul_right (square_side X) (mul-le-mul_right (length X.rows) few)

-- and by as many as there is room for
pub room_work : (X : Problem) (room count most : ℕ) → room ≡ answer_room X count → ranking_work X count ≤ most → ranking_work X room ≤ most
room_work X room count most is work =
    let upto : room ≤ count = omega (arith, is) in
    let less = work_upto X room count upto in
    omega (arith, less, work)

-- all but one
pub rest_few : (room k : ℕ) → (room - 1) * k ≤ room * k
rest_few room k = mul-le-mul_right k (let h : room - 1 ≤ room = omega arith in h)
