-- The cells of the square of an instance for `time-cost`, by the costs of its table.
use Rattle.asg_table_phases.proofs.Common.{◌≡◌, ℕ, ◌+◌, ◌<◌, ◌≤◌, Bool, true, false, cond, ◌&&◌, labelled_cell, List, length, ℤ, pos, ◌+ℤ◌, ◌≤ℤ◌, nat_lt, Some, None, Option, ◌⊎◌, inl, inr, cases_lt, sym, refl, subst, ⊎_elim, arith, ints, same_Some, slice_index, slice_index_or, unsigned_abs, is_counted, capacity_at, first_copy, column_label, row_label, live_at, most_cost, narrow_top, AreRowParts, IsInstance, Problem, square_side, square_cell, Cost, is_free_cell}
use Rattle.asg_grade_lists.specs.GradeLists.{EndsWellAt, NoneLower, NoneLowerIn, RowEndsWell, RowsEndWell}
use Rattle.asg_model.proofs.Kit.{leb-true, ltb-false, ltb-true, none-some}
use Rattle.asg_model.specs.declared.parts.Place.{Place}
use Rattle.asg_model.specs.declared.parts.Place.TheVariants.{All as PlaceAll}
use Rattle.asg_monoids.specs.Entered.{time_entered}
use Rattle.asg_proof.specs.GradeAmounts.{amount_at, cell_amount}
use Rattle.asg_square.specs.laws.CopyRuns.{copy_within}
use Rattle.asg_table_phases.proofs.ColumnCopies.{copied_there}
use Rattle.asg_table_phases.proofs.TableCells.{IsEntered, IsFree, cell_of}
use Rattle.asg_table_phases.specs.GradedRows.{AreSingle, CostsBelow, CostsReach, FirstsRise, IsLimitOf, IsPlain, LiveEndWell, LiveRise, PartsEndWell, RowsEnd, RowsRise}
use Rattle.asg_values.specs.laws.LiveCells.{column_of_live, range_of_live}
use Rattle.asg_values.specs.laws.RowSlots.{first-at_live, second-at_live}

-- ---- costs of a row as they stand in its table

module _ (X : Problem) (r : ℕ) (firsts seconds : List ℤ) (parts : AreRowParts X r firsts seconds) where
  -- a row all whose costs end well
  pub row_by_ends : (columns : List ℕ) (limit : ℤ) (raise : ℕ) → CostsReach firsts seconds columns limit raise (length firsts) → CostsBelow firsts columns limit raise (length firsts)
      → (k : ℕ) (x : Cost) → live_at X r k ≡ Some x → PartsEndWell x.a x.b limit (slice_index columns k) raise
  row_by_ends columns limit raise at below k x live =
      let within : k < length firsts = omega (arith, column_of_live X r k x live, parts.whole) in
      subst (λ b. PartsEndWell x.a b limit (slice_index columns k) raise) (second-at_live X r firsts seconds parts k x live)
      (subst (λ a. PartsEndWell a (slice_index_or seconds k (pos 0)) limit (slice_index columns k) raise) (first-at_live X r firsts seconds parts k x live) (record { at = at k within; below = below k within }))

  -- a row all whose first parts rise
  pub row_by_firsts : (leaves : List ℕ) (limit : ℤ) → FirstsRise firsts leaves limit (length firsts)
      → (k : ℕ) (x : Cost) → live_at X r k ≡ Some x → 0 < slice_index leaves k → limit ≤ℤ x.a
  row_by_firsts leaves limit all k x live stays =
      let within : k < length firsts = omega (arith, column_of_live X r k x live, parts.whole) in
      subst (λ a. limit ≤ℤ a) (first-at_live X r firsts seconds parts k x live) (all k within stays)

-- ---- columns with one copy each

pub single : (X : Problem) → ((d : ℕ) → d < length X.columns → first_copy X d ≡ d) → ((d : ℕ) → d < length X.columns → capacity_at X d ≡ 1) → AreSingle X
single X first one k d label =
    let there = copied_there X k d label in
    let run = copy_within X d k label in
    omega (arith, run.0, run.1, first d there, one d there)

-- ---- cells by their costs

-- the amount of a value at a grade
amount_cases : (g : ℕ) (x : ℕ × ℕ) (y : ℕ) → amount_at g x ≡ Some y → ((x.0 < g) × (y ≡ 0)) ⊎ ((x.0 ≡ g) × (y ≡ x.1))
amount_cases g x y is = by (nat_lt g x.0) (nat_lt x.0 g) refl refl is
  where
    by : (above below : Bool) → nat_lt g x.0 ≡ above → nat_lt x.0 g ≡ below → cond above None (cond below (Some 0) (Some x.1)) ≡ Some y → ((x.0 < g) × (y ≡ 0)) ⊎ ((x.0 ≡ g) × (y ≡ x.1))
    by true below e f s = absurd (none-some y s)
    by false true e f s = inl (ltb-true x.0 g f, same_Some y 0 (sym s))
    by false false e f s = inr (let a = ltb-false g x.0 e in let b = ltb-false x.0 g f in omega (arith, a, b), same_Some y x.1 (sym s))

-- a cost in range ends well
cost_ends : (g : ℕ) (limit : ℤ) → IsLimitOf g limit → (x : Cost) → unsigned_abs x.a ≤ most_cost → unsigned_abs x.b ≤ most_cost → (number raise : ℕ) → PartsEndWell x.a x.b limit number raise → EndsWellAt g raise number (Some (time_entered x))
cost_ends g limit is x first second number raise ends y here =
    ⊎_elim
    (λ lower.
    let below : (x.a +ℤ pos 1) ≤ℤ limit = omega (arith, ints, lower.0, is.enters, first) in
    let fits = ends.below below in
    (omega (arith, lower.1), omega (arith, fits, lower.1)))
    (λ same.
    let at : x.a ≡ limit = omega (arith, ints, same.0, is.enters, first) in
    let fits = ends.at at in
    (omega (arith, same.1, second), omega (arith, fits, same.1)))
    (amount_cases g (time_entered x) y here)

cost_rises : (g : ℕ) (limit : ℤ) → IsLimitOf g limit → (x : Cost) → unsigned_abs x.a ≤ most_cost → limit ≤ℤ x.a → g ≤ (time_entered x).0
cost_rises g limit is x first above = omega (arith, ints, is.enters, first, above)

-- no cell of a counted row is free where all rows are placed
none_free : (X : Problem) (r k : ℕ) → X.place ≡ PlaceAll → is_counted X r ≡ true → is_free_cell X.place (row_label X r) (column_label X k) ≡ true → ⊥
none_free X r k all counted free =
    by (column_label X k) (subst (λ (place : Place). is_free_cell place (Some r) (column_label X k) ≡ true) all
    (subst (λ (b : Bool). is_free_cell X.place (cond b (Some r) None) (column_label X k) ≡ true) counted free))
  where
    by : (o : Option ℕ) → is_free_cell PlaceAll (Some r) o ≡ true → ⊥
    by (Some d) e = absurd (cc)
    by None e = absurd (cc)

module _ (X : Problem) (instance : IsInstance X) (plain : IsPlain X) (g : ℕ) (limit : ℤ) (is : IsLimitOf g limit) where
  row_ends : (columns : List ℕ) (raise r : ℕ) → LiveEndWell X columns limit raise r → RowEndsWell g (square_side X) raise columns (square_cell X (0, 0) time_entered r)
  row_ends columns raise r ends k within y here =
      by (square_cell X (0, 0) time_entered r k) refl here
    where
      entered : (x : ℕ × ℕ) → cell_amount g (Some x) ≡ Some y → IsEntered X time_entered r k x → (y ≤ narrow_top) × (slice_index columns k ≤ y + raise)
      entered x amount cell =
          let same : cell.column ≡ k = plain.single k cell.column cell.label in
          let range = range_of_live X instance r cell.column cell.cost cell.live in
          let fits = subst (λ d. PartsEndWell cell.cost.a cell.cost.b limit (slice_index columns d) raise) same (ends.each cell.column cell.cost cell.live) in
          cost_ends g limit is cell.cost range.a_in_range range.b_in_range (slice_index columns k) raise fits y
          (subst (λ (v : ℕ × ℕ). cell_amount g (Some v) ≡ Some y) (sym cell.is) amount)

      by : (o : Option (ℕ × ℕ)) → square_cell X (0, 0) time_entered r k ≡ o → cell_amount g o ≡ Some y → (y ≤ narrow_top) × (slice_index columns k ≤ y + raise)
      by None e none = absurd (none-some y none)
      by (Some x) e amount =
          ⊎_elim
          (entered x amount)
          (λ (cell : IsFree X (0, 0) r k x). absurd (none_free X r k plain.all ends.counted cell.free))
          (cell_of X (0, 0) time_entered r k x e)

  -- each cell ends well
  pub table_ends : (rows columns : List ℕ) → length rows ≡ square_side X → RowsEnd X rows columns limit (length rows) → RowsEndWell g (square_side X) (square_side X) rows columns (square_cell X (0, 0) time_entered)
  table_ends rows columns count all r within = row_ends columns (slice_index rows r) r (all r (omega (arith, within, count)))

  row_stays : (leaves : List ℕ) (r : ℕ) → LiveRise X leaves limit r → NoneLower g (square_side X) leaves (square_cell X (0, 0) time_entered r)
  row_stays leaves r rise k x within stays here =
      ⊎_elim
      (λ (cell : IsEntered X time_entered r k x).
      let same : cell.column ≡ k = plain.single k cell.column cell.label in
      let range = range_of_live X instance r cell.column cell.cost cell.live in
      let above = rise.each cell.column cell.cost cell.live (subst (λ d. 0 < slice_index leaves d) (sym same) (ltb-true 0 (slice_index leaves k) stays)) in
      subst (λ (v : ℕ × ℕ). g ≤ v.0) cell.is (cost_rises g limit is cell.cost range.a_in_range above))
      (λ (cell : IsFree X (0, 0) r k x). absurd (none_free X r k plain.all rise.counted cell.free))
      (cell_of X (0, 0) time_entered r k x here)

  -- no cell that rises is lower
  pub table_stays : (enters leaves : List ℕ) → length enters ≡ square_side X → RowsRise X enters leaves limit (length enters) → NoneLowerIn g (square_side X) (square_side X) enters leaves (square_cell X (0, 0) time_entered)
  table_stays enters leaves count all r within enter =
      row_stays leaves r (all r (omega (arith, within, count)) (leb-true (slice_index enters r) 0 enter))

-- a present cell stands within the square
pub cell_within : (X : Problem) (r k : ℕ) (x : ℕ × ℕ) → square_cell X (0, 0) time_entered r k ≡ Some x → (r < square_side X) × (k < square_side X)
cell_within X r k x is = by (nat_lt r (square_side X)) (nat_lt k (square_side X)) refl refl is
  where
    by : (row column : Bool) → nat_lt r (square_side X) ≡ row → nat_lt k (square_side X) ≡ column
        → cond (row && column) (labelled_cell X (0, 0) time_entered (row_label X r) (column_label X k)) None ≡ Some x → (r < square_side X) × (k < square_side X)
    by true true e f s = (ltb-true r (square_side X) e, ltb-true k (square_side X) f)
    by true false e f s = absurd (none-some x s)
    by false column e f s = absurd (none-some x s)

-- ---- one more row

pub rows_more : (X : Problem) (rows columns : List ℕ) (limit : ℤ) (r : ℕ) → RowsEnd X rows columns limit r → LiveEndWell X columns limit (slice_index rows r) r → RowsEnd X rows columns limit (r + 1)
rows_more X rows columns limit r all here i within =
    ⊎_elim
    (λ (early : i < r). all i early)
    (λ (last : r ≤ i).
    let same : r ≡ i = omega (arith, last, within) in
    subst (λ j. LiveEndWell X columns limit (slice_index rows j) j) same here)
    (cases_lt i r)
