-- Phases by dual variables.
use Rattle.asg_kept.proofs.Common.{◌≡◌, ℕ, suc, ◌+◌, ◌-◌, ◌<◌, ◌≤◌, min, List, length, get_or, is_some, IsSome, slice_get, slice_index, Some, None, All, Option, option_map, sym, refl, ap, ◌∙◌, subst, inl, inr, ⊎_elim, arith, le-leb, cases_lt, false≢true, get_or_default, get_or_from_slice_get, same_number_lists, slice_get-get_or, AllowsRows, IsReduced, IsPhaseTo, KeepsPresence, phase_of, present_within, AreWordsOf, AreValuesOf, bounded_sums, bounded_difference, IsValue, fold_of, sum_before, dual_value, dual_bits, dual_values, dual_grid, dual_reduced, AreDuals, FitsDuals, FitsRows, HasRoom, RaisesDuals, fold_is, settled_is, allowed_fits, fits_allowed, before_more, before_rises, Grid, IsGrid, cell_at, false, map, Reduced, AreCounted, admitted_to, allows_from, KeepsSums, IsAdmittedPhase, AreSums, count_is, read_is, sum_at, ◌↔◌}
use Rattle.asg_admit.specs.Settled.{settled, AllowsSteps}
use Rattle.asg_admit.specs.laws.SettledCells.{after_phase-cell}
use Rattle.asg_kept.proofs.ZeroDuals.{unwritten}
use Rattle.asg_kept.proofs.DualLemmas.{dual_is_grid, dual_cell_at, mapped_from, mapped_twice, bits_kept, dual_values_at, length_of_values}

module _ {bound : ℕ} {Q : Grid ℕ} {rows columns : List ℕ} {index greatest : ℕ} (duals : AreDuals bound Q rows columns index greatest) where
  abbrev now : Grid ℕ
  now = dual_grid Q rows columns

  -- a present cell of the square as it is comes from one as it was
  pub dual_from : (r k y : ℕ) → cell_at now r k ≡ Some y → (x : ℕ) × (cell_at Q r k ≡ Some x) × (dual_value (slice_index rows r) (slice_index columns k) x ≡ y)
  dual_from r k y h = mapped_from (dual_value (slice_index rows r) (slice_index columns k)) (cell_at Q r k) y (sym (dual_cell_at Q duals.grid rows columns r k) ∙ h)

  -- a present cell of the square as it was gives one as it is
  pub dual_to : (r k x : ℕ) → cell_at Q r k ≡ Some x → cell_at now r k ≡ Some (dual_value (slice_index rows r) (slice_index columns k) x)
  dual_to r k x h = dual_cell_at Q duals.grid rows columns r k ∙ ap (option_map (dual_value (slice_index rows r) (slice_index columns k))) h

  module _ {reduced : Reduced ℕ} (view : dual_reduced Q rows columns index ≡ reduced) {top : ℕ} (steps enters leaves : List ℕ) (given : HasRoom top reduced (fold_of (bounded_sums top) steps)) where
    room : HasRoom top (dual_reduced Q rows columns index) (fold_of (bounded_sums top) steps)
    room = subst (λ (R : Reduced ℕ). HasRoom top R (fold_of (bounded_sums top) steps)) (sym view) given

    abbrev sum : ℕ
    sum = sum_before steps (length steps)

    pub sum_is : fold_of (bounded_sums top) steps ≡ sum
    sum_is = let fold = fold_is steps top in omega (arith, fold, room.index)

    -- what a phase makes of a present cell
    module _ (r k x : ℕ) (is : cell_at Q r k ≡ Some x) where
      abbrev value : ℕ
      value = dual_value (slice_index rows r) (slice_index columns k) x

      abbrev entered : ℕ
      entered = sum_before steps (min (slice_index enters r) (length steps))

      abbrev left : ℕ
      left = sum_before steps (min (slice_index leaves k) (length steps))

      pub cell_room : value + sum < top
      cell_room = let below = room.cells r k value (dual_to r k x is) in omega (arith, below, sum_is)

      cell_settled : settled (bounded_sums top) bounded_difference steps (slice_index enters r) (slice_index leaves k) value ≡ (value + entered) - left
      cell_settled = settled_is steps top value (omega (arith, cell_room)) (slice_index enters r) (slice_index leaves k)

      cell_fits : AllowsRows (bounded_sums top) bounded_difference (phase_of steps enters leaves) now → left ≤ value + entered
      cell_fits allows =
          let within = present_within Q duals.grid r k x is in
          allowed_fits steps top value (omega (arith, cell_room)) (slice_index enters r) (slice_index leaves k)
          (allows r within.0 k within.1 value (dual_to r k x is))

      entered_few : entered ≤ sum
      entered_few = before_rises steps (min (slice_index enters r) (length steps)) (length steps) (omega arith) (omega arith)

    steps_few : (t : ℕ) → t < length steps → slice_index steps t ≤ top
    steps_few t h =
        let more = before_more steps t h in
        let part = before_rises steps (suc t) (length steps) h (omega arith) in
        omega (arith, more, part, sum_is, room.index)

    steps_are_values : All (IsValue (bounded_sums top)) steps
    steps_are_values t d h = subst (λ x. IsValue (bounded_sums top) x) (get_or_default steps t 0 d h) (le-leb (slice_index steps t) top (steps_few t h))

    pub admitted_allows : IsAdmittedPhase (bounded_sums top) bounded_difference reduced.now.side (phase_of steps enters leaves) (cell_at reduced.now) → AllowsRows (bounded_sums top) bounded_difference (phase_of steps enters leaves) now
    admitted_allows admitted =
        allows_from (bounded_sums top) bounded_difference (phase_of steps enters leaves) now
        (subst (λ (R : Reduced ℕ). IsAdmittedPhase (bounded_sums top) bounded_difference R.now.side (phase_of steps enters leaves) (cell_at R.now)) (sym view) admitted)

    -- the cells of the rows that enter allow the steps exactly where no difference is cut off at 0
    module _ {columns′ : List ℕ} (raised : RaisesDuals steps leaves columns columns′) where
      raised_is : (k : ℕ) → k < Q.side → slice_index columns′ k ≡ slice_index columns k + sum_before steps (min (slice_index leaves k) (length steps))
      raised_is k h = raised.each k (omega (arith, h, duals.column_count))

      uncut : (r : ℕ) → slice_index enters r < length steps → sum_before steps (slice_index enters r) ≡ sum_before steps (min (slice_index enters r) (length steps))
      uncut r h = ap (sum_before steps) (let e : slice_index enters r ≡ min (slice_index enters r) (length steps) = omega (arith, h) in e)

      pub fits_allow : FitsRows Q.side (cell_at Q) rows columns′ steps enters → AllowsRows (bounded_sums top) bounded_difference (phase_of steps enters leaves) now
      fits_allow fits = λ r hr k hk y is.
          let from = dual_from r k y is in
          let x = from.0 in
          let was = duals.cells r k x from.1 in
          ⊎_elim
          (λ (enters_row : slice_index enters r < length steps).
          let fit = fits r hr enters_row k x hk from.1 in
          let least : left r k x from.1 ≤ value r k x from.1 + entered r k x from.1 = omega (arith, fit, raised_is k hk, uncut r enters_row, was) in
          subst (AllowsSteps (bounded_sums top) bounded_difference steps (slice_index enters r) (slice_index leaves k)) from.2
          (fits_allowed steps top (value r k x from.1) (omega (arith, cell_room r k x from.1)) (slice_index enters r) (slice_index leaves k) least))
          (λ (waits : length steps ≤ slice_index enters r). λ t below in_row stays. absurd (omega (arith, waits, below, in_row)))
          (cases_lt (slice_index enters r) (length steps))

      pub allow_fits : AllowsRows (bounded_sums top) bounded_difference (phase_of steps enters leaves) now → FitsRows Q.side (cell_at Q) rows columns′ steps enters
      allow_fits allows = λ r hr enters_row k x hk is.
          let was = duals.cells r k x is in
          let least = cell_fits r k x is allows in
          omega (arith, least, raised_is k hk, uncut r enters_row, was)

      -- so a test of these tells whether the phase is admitted
      pub phase_told : {T : Type 0} → length enters ≡ Q.side → length leaves ≡ Q.side → AreCounted enters leaves (length steps) → T ↔ FitsRows Q.side (cell_at Q) rows columns′ steps enters → T ↔ IsAdmittedPhase (bounded_sums top) bounded_difference reduced.now.side (phase_of steps enters leaves) (cell_at reduced.now)
      phase_told row_count column_count counted told = (
        λ is. subst (λ (R : Reduced ℕ). IsAdmittedPhase (bounded_sums top) bounded_difference R.now.side (phase_of steps enters leaves) (cell_at R.now)) view
            (admitted_to (bounded_sums top) bounded_difference (phase_of steps enters leaves) now row_count column_count steps_are_values counted (fits_allow (told.0 is))),
        λ admitted. told.1 (allow_fits (admitted_allows admitted)),
      )

    module _ (allows : AllowsRows (bounded_sums top) bounded_difference (phase_of steps enters leaves) now) (few : top ≤ bound) {rows′ columns′ : List ℕ} (raised_rows : RaisesDuals steps enters rows rows′) (raised_columns : RaisesDuals steps leaves columns columns′) {later : ℕ} (grown : later ≡ index + sum) where
      row_is : (r : ℕ) → r < Q.side → slice_index rows′ r ≡ slice_index rows r + sum_before steps (min (slice_index enters r) (length steps))
      row_is r h = raised_rows.each r (omega (arith, h, duals.row_count))

      column_is : (k : ℕ) → k < Q.side → slice_index columns′ k ≡ slice_index columns k + sum_before steps (min (slice_index leaves k) (length steps))
      column_is k h = raised_columns.each k (omega (arith, h, duals.column_count))

      pub duals_after : KeepsSums bound Q rows′ columns′ later greatest false
      duals_after = unwritten (record {
        grid = duals.grid;
        row_count = raised_rows.count ∙ duals.row_count;
        column_count = raised_columns.count ∙ duals.column_count;
        rows_within = λ r h. let part = before_rises steps (min (slice_index enters r) (length steps)) (length steps) (omega arith) (omega arith) in omega (arith, row_is r h, duals.rows_within r h, part, grown);
        columns_within = λ k h. let part = before_rises steps (min (slice_index leaves k) (length steps)) (length steps) (omega arith) (omega arith) in omega (arith, column_is k h, duals.columns_within k h, part, grown);
        cells = λ r k x is.
            let within = present_within Q duals.grid r k x is in
            let fits = cell_fits r k x is allows in
            let was = duals.cells r k x is in
            omega (arith, row_is r within.0, column_is k within.1, fits, was);
        above = duals.above;
        few_index = omega (arith, room.index, sum_is, few, grown);
        few_greatest = duals.few_greatest;
      })

      cell_after : (r k x : ℕ) → cell_at Q r k ≡ Some x → dual_value (slice_index rows′ r) (slice_index columns′ k) x ≡ settled (bounded_sums top) bounded_difference steps (slice_index enters r) (slice_index leaves k) (dual_value (slice_index rows r) (slice_index columns k) x)
      cell_after r k x is =
          let within = present_within Q duals.grid r k x is in
          let fits = cell_fits r k x is allows in
          let was = duals.cells r k x is in
          let settles = cell_settled r k x is in
          omega (arith, row_is r within.0, column_is k within.1, fits, was, settles)

      pub phase_after : IsPhaseTo (bounded_sums top) bounded_difference (phase_of steps enters leaves) reduced (dual_reduced Q rows′ columns′ later)
      phase_after = subst (λ (R : Reduced ℕ). IsPhaseTo (bounded_sums top) bounded_difference (phase_of steps enters leaves) R (dual_reduced Q rows′ columns′ later)) view (record {
        cells = λ r k.
            dual_cell_at Q duals.grid rows′ columns′ r k
            ∙ mapped_twice (dual_value (slice_index rows r) (slice_index columns k)) (settled (bounded_sums top) bounded_difference steps (slice_index enters r) (slice_index leaves k)) (dual_value (slice_index rows′ r) (slice_index columns′ k)) (cell_at Q r k) (cell_after r k)
            ∙ ap (option_map (settled (bounded_sums top) bounded_difference steps (slice_index enters r) (slice_index leaves k))) (sym (dual_cell_at Q duals.grid rows columns r k))
            ∙ sym (after_phase-cell (bounded_sums top) bounded_difference (phase_of steps enters leaves) (cell_at now) r k);
        index = let e : later ≡ min (index + fold_of (bounded_sums top) steps) top = omega (arith, sum_is, room.index, grown) in e;
        labels = record { side = refl; rows = refl; row_labels = refl; column_labels = refl };
        reduced = record {
          cells = λ r k y hr hk is.
              let from = mapped_from (dual_value (slice_index rows′ r) (slice_index columns′ k)) (cell_at Q r k) y (sym (dual_cell_at Q duals.grid rows′ columns′ r k) ∙ is) in
              let x = from.0 in
              let settles = cell_settled r k x from.1 in
              let room_for = cell_room r k x from.1 in
              let part = entered_few r k x from.1 in
              let after = cell_after r k x from.1 in
              le-leb y top (omega (arith, from.2, settles, room_for, part, after));
          index = le-leb later top (omega (arith, sum_is, room.index, grown));
        };
      })

  -- ---- room

  pub has_room_is : {top sum : ℕ} → index + greatest + sum < top → HasRoom top (dual_reduced Q rows columns index) sum
  has_room_is below = record {
    index = omega (arith, below);
    cells = λ r k y is.
        let from = dual_from r k y is in
        let within = present_within Q duals.grid r k from.0 from.1 in
        let least = duals.above r k from.0 within.0 from.1 in
        let row = duals.rows_within r within.0 in
        omega (arith, below, from.2, least, row);
  }

  pub duals_fit : (width : ℕ) → bound + bound < width → (r k : ℕ) → FitsDuals width (slice_index rows r) (slice_index columns k) (cell_at Q r k)
  duals_fit width few r k = λ x is.
      let within = present_within Q duals.grid r k x is in
      let least = duals.above r k x within.0 is in
      let row = duals.rows_within r within.0 in (
        duals.cells r k x is,
        omega (arith, few, least, row, duals.few_index, duals.few_greatest),
      )

  -- ---- reading

  some_is : {V : Type 0} (o : Option V) → IsSome o → (y : V) × (o ≡ Some y)
  some_is None h = absurd (false≢true h)
  some_is (Some y) h = (y, refl)

  mapped_some : (f : ℕ → ℕ) (o : Option ℕ) → is_some (option_map f o) ≡ is_some o
  mapped_some f None = refl
  mapped_some f (Some x) = refl

  -- the same cells are present as in the square as it was made
  pub dual_presence : KeepsPresence now Q
  dual_presence = record {
    labels = record { side = refl; rows = refl; row_labels = refl; column_labels = refl };
    present = λ r k. sym (ap is_some (dual_cell_at Q duals.grid rows columns r k) ∙ mapped_some (dual_value (slice_index rows r) (slice_index columns k)) (cell_at Q r k));
  }

  pub dual_words : (r : ℕ) (words : List ℕ) → AreWordsOf (λ c. is_some (cell_at Q r c)) Q.side words → AreWordsOf (λ c. is_some (cell_at now r c)) Q.side words
  dual_words r words are = record {
    count = are.count;
    each = λ k below.
        are.each k below
        ∙ sym (ap is_some (dual_cell_at Q duals.grid rows columns r k) ∙ mapped_some (dual_value (slice_index rows r) (slice_index columns k)) (cell_at Q r k));
  }

  pub dual_row_is : (width : ℕ) → bound + bound < width → (r : ℕ) (values cs : List ℕ) (row : ℕ) (result : List ℕ) → AreValuesOf (cell_at Q r) Q.side values → cs ≡ columns → row ≡ slice_index rows r → result ≡ dual_values width values cs row → AreValuesOf (cell_at now r) Q.side result
  dual_row_is width few r values cs row result are columns_are row_is is = record {
    count = count;
    each = λ k some.
        let one = some_is (cell_at now r k) some in
        let from = dual_from r k one.0 one.1 in
        let x = from.0 in
        let within = present_within Q duals.grid r k x from.1 in
        let fits = duals_fit width few r k x from.1 in
        let read : slice_get values k ≡ Some x = are.each k (ap is_some from.1) ∙ from.1 in
        let there : get_or values k 0 ≡ x = get_or_from_slice_get values k x 0 read in
        slice_get-get_or result k 0 (omega (arith, count, within.1))
        ∙ ap Some (
        ap (λ xs. get_or xs k 0) is
        ∙ dual_values_at width values cs row k (omega (arith, are.count, within.1))
        ∙ ap (λ v. dual_bits width row (slice_index cs k) v) there
        ∙ ap (λ v. dual_bits width v (slice_index cs k) x) row_is
        ∙ ap (λ v. dual_bits width (slice_index rows r) (slice_index v k) x) columns_are
        ∙ bits_kept width (slice_index rows r) (slice_index columns k) x fits.0 fits.1
        ∙ from.2)
        ∙ sym one.1;
  }
    where
      count : length result ≡ Q.side
      count = ap length is ∙ length_of_values width values cs row ∙ are.count

-- what was raised and lessened again is what it was
pub lowered_back : {steps marks before raised after : List ℕ} → RaisesDuals steps marks before raised → RaisesDuals steps marks after raised → after ≡ before
lowered_back {steps} {marks} {before} {raised} {after} up down =
    same_number_lists after before (sym down.count ∙ up.count)
    (λ k h. omega (arith, up.each k (omega (arith, h, down.count, up.count)), down.each k h))

-- the sum of steps that a square has room for, as the list of their sums ends with it
module _ {T : Type 0} {number : T → ℕ} {numbers : List T → List ℕ} (law : (xs : List T) → numbers xs ≡ map number xs) (steps : List T) where
  pub sum_fits : {top : ℕ} {reduced : Reduced ℕ} → HasRoom top reduced (fold_of (bounded_sums top) (numbers steps)) → reduced.index + sum_before (numbers steps) (length steps) < top
  sum_fits {top} room = let fold = fold_is (numbers steps) top in omega (arith, fold, sum_at law steps, room.index)

  pub total_is : (sums : List T) (total : T) → length steps < length sums → AreSums (numbers steps) (numbers sums) → total ≡ get_or sums (length steps) total → number total ≡ sum_before (numbers steps) (length (numbers steps))
  total_is sums total room are is =
      read_is law sums (length steps) total room is
      ∙ are (length steps) (omega (arith, count_is law steps))
      ∙ sum_at law steps

-- what tells whether rows fit tells it of the same rows, read elsewhere
pub fits_told : {T : Type 0} {side : ℕ} {square square′ : ℕ → ℕ → Option ℕ} {rows rows′ columns columns′ : List ℕ} (steps enters : List ℕ) → square ≡ square′ → rows ≡ rows′ → columns ≡ columns′ → T ↔ FitsRows side square rows columns steps enters → T ↔ FitsRows side square′ rows′ columns′ steps enters
fits_told {T} {side} {square} {square′} {rows} {rows′} {columns} {columns′} steps enters cells are_rows are_columns told =
    subst (λ (q : ℕ → ℕ → Option ℕ). T ↔ FitsRows side q rows′ columns′ steps enters) cells
    (subst (λ (xs : List ℕ). T ↔ FitsRows side square xs columns′ steps enters) are_rows
    (subst (λ (xs : List ℕ). T ↔ FitsRows side square rows xs steps enters) are_columns told))
