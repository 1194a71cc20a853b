use Rattle.asg_kept.proofs.Common.{◌≡◌, ℕ, ◌+◌, ◌↔◌, min, List, length, slice_index, sym, refl, ap, ◌∙◌, subst, arith, false≢true, AreCounted, IsPhaseTo, phase_of, Reduced, not_both, never, counted_from, present_within, bounded_sums, bounded_difference, sum_before, AreDuals, FitsRows, numbered_grid, count_is, sum_at, cell_is, cells_are, cell_at}
use Rattle.asg_kept.proofs.DualPhases.{duals_after, fits_allow, fits_told, lowered_back, phase_after, phase_told, sum_fits, total_is}
use Rattle.asg_kept.proofs.ZeroDuals.{unwritten}
use Rattle.asg_kept.proofs.dual_squares.DualSquare.try_duals.Goals as goal

pub returns-then-enters-side-clause-admitted : goal.returns-then-enters-side-clause-admitted
returns-then-enters-side-clause-admitted g c =
    never (λ one. omega (arith, one.rows, ap (λ (R : Reduced ℕ). R.now.side) c.self.view_is, c.side-side.ensures.side, c.if-enters-side.true))

pub returns-then-enters-side-clause-applied : goal.returns-then-enters-side-clause-applied
returns-then-enters-side-clause-applied g c = λ h. absurd (false≢true h)

pub returns-then-leaves-side-clause-admitted : goal.returns-then-leaves-side-clause-admitted
returns-then-leaves-side-clause-admitted g c =
    never (λ one. omega (arith, one.columns, ap (λ (R : Reduced ℕ). R.now.side) c.self.view_is, c.side-side.ensures.side, c.if-leaves-side.true))

pub returns-then-leaves-side-clause-applied : goal.returns-then-leaves-side-clause-applied
returns-then-leaves-side-clause-applied g c = λ h. absurd (false≢true h)

pub returns-then-not-are_counted-clause-admitted : goal.returns-then-not-are_counted-clause-admitted
returns-then-not-are_counted-clause-admitted g c =
    let enters = c.args.enters.now in
    let leaves = c.args.leaves.now in
    never (λ one. not_both c.are_counted.result
    (c.are_counted.ensures.1
    (subst (λ n. AreCounted enters leaves n) (count_is g.met.N.SumNumber.numbers_law c.args.steps.now) (counted_from (bounded_sums (g.N.SumNumber.number c.args.top)) bounded_difference (phase_of (g.N.SumNumber.numbers c.args.steps.now) enters leaves) c.args.self.now.now one)))
    c.if-not-are_counted.true)

pub returns-then-not-are_counted-clause-applied : goal.returns-then-not-are_counted-clause-applied
returns-then-not-are_counted-clause-applied g c = λ h. absurd (false≢true h)

pub sum_up-requires-clause-fits : goal.sum_up-requires-clause-fits
sum_up-requires-clause-fits g c =
    omega (arith, sum_fits g.met.N.SumNumber.numbers_law c.args.steps.now c.requires.sums, c.requires.top, g.met.N.SumNumber.wide_law)

pub raise-requires-clause-marks : goal.raise-requires-clause-marks
raise-requires-clause-marks g c =
    omega (arith, c.if-leaves-side.false, c.side-side.ensures.side, c.self.invariant.duals.column_count, count_is g.met.N.SumNumber.numbers_law c.self.inside.columns.items)

pub raise-requires-clause-fits : goal.raise-requires-clause-fits
raise-requires-clause-fits g c = λ i h.
    let law = g.met.N.SumNumber.numbers_law in
    let v = c.self.invariant.duals in
    let within = v.columns_within i (omega (arith, h, v.column_count, count_is law c.self.inside.columns.items)) in
    omega (arith, sum_fits law c.args.steps.now c.requires.sums, within, v.few_index, c.requires.top, g.met.N.SumNumber.wide_law)

pub rows_fit-requires-clause-rows : goal.rows_fit-requires-clause-rows
rows_fit-requires-clause-rows g c =
    omega (arith, ap length c.as_slice-rows.ensures.value, c.self.invariant.duals.row_count, count_is g.met.N.SumNumber.numbers_law c.self.inside.rows.items)

pub rows_fit-requires-clause-columns : goal.rows_fit-requires-clause-columns
rows_fit-requires-clause-columns g c =
    omega (arith, ap length c.as_slice.ensures.value, c.raise.ensures.count, c.self.invariant.duals.column_count, count_is g.met.N.SumNumber.numbers_law c.raise.new.duals.items)

pub rows_fit-requires-clause-few_rows : goal.rows_fit-requires-clause-few_rows
rows_fit-requires-clause-few_rows g c = λ r h.
    let within = c.self.invariant.duals.rows_within r h in
    let same = ap (λ (R : Reduced ℕ). R.index) c.self.view_is in
    let at = ap (λ (xs : List g.row.N.Denot). slice_index (g.N.SumNumber.numbers xs) r) c.as_slice-rows.ensures.value in
    omega (arith, sum_fits g.met.N.SumNumber.numbers_law c.args.steps.now c.requires.sums, within, at, same, c.requires.top)

pub rows_fit-requires-clause-few_cells : goal.rows_fit-requires-clause-few_cells
rows_fit-requires-clause-few_cells g c = λ r k x is.
    let Q = c.self.inside.kept.now in
    let v = c.self.invariant.duals in
    let there = cell_is g.met.N.SumNumber.present_law g.met.N.SumNumber.cells_law Q r k ∙ is in
    let within = present_within (numbered_grid g.N.SumNumber.cells Q) v.grid r k x there in
    omega (arith, v.above r k x within.0 there, v.few_greatest)

pub lower-requires-clause-marks : goal.lower-requires-clause-marks
lower-requires-clause-marks g c =
    omega (arith, c.if-leaves-side.false, c.side-side.ensures.side, c.raise.ensures.count, c.self.invariant.duals.column_count, count_is g.met.N.SumNumber.numbers_law c.raise.new.duals.items)

pub lower-requires-clause-raised : goal.lower-requires-clause-raised
lower-requires-clause-raised g c = λ i h.
    let law = g.met.N.SumNumber.numbers_law in
    let each = c.raise.ensures.each i (omega (arith, h, c.raise.ensures.count, count_is law c.raise.new.duals.items)) in
    let same = ap (λ n. sum_before (g.N.SumNumber.numbers c.args.steps.now) (min (slice_index c.args.leaves.now i) n)) (sym (count_is law c.args.steps.now)) in
    omega (arith, each, same)

pub returns-then-not-rows_fit-clause-admitted : goal.returns-then-not-rows_fit-clause-admitted
returns-then-not-rows_fit-clause-admitted g c =
    let N = g.N.SumNumber in
    let law = g.met.N.SumNumber.numbers_law in
    let told =
    phase_told c.self.invariant.duals c.self.view_is (N.numbers c.args.steps.now) c.args.enters.now c.args.leaves.now c.requires.sums c.raise.ensures
    (omega (arith, c.if-enters-side.false, c.side-side.ensures.side)) (omega (arith, c.if-leaves-side.false, c.side-side.ensures.side))
    (subst (λ n. AreCounted c.args.enters.now c.args.leaves.now n) (sym (count_is law c.args.steps.now)) (c.are_counted.ensures.0 c.if-not-are_counted.false))
    (fits_told (N.numbers c.args.steps.now) c.args.enters.now (cells_are g.met.N.SumNumber.present_law g.met.N.SumNumber.cells_law c.self.inside.kept.now) (ap N.numbers c.as_slice-rows.ensures.value) (ap N.numbers c.as_slice.ensures.value) c.rows_fit.ensures) in
    never (λ one. not_both c.rows_fit.result (told.1 one) c.if-not-rows_fit.true)

pub returns-then-not-rows_fit-clause-applied : goal.returns-then-not-rows_fit-clause-applied
returns-then-not-rows_fit-clause-applied g c = λ h. absurd (false≢true h)

pub invariant_of-self : goal.invariant_of-self
invariant_of-self g c =
    let N = g.N.SumNumber in
    let s = c.self.inside in
    unwritten (
    subst (λ (xs : List ℕ). AreDuals N.top (numbered_grid N.cells s.kept.now) (N.numbers s.rows.items) xs (N.number s.kept.index) (N.number s.greatest))
    (sym (lowered_back c.raise.ensures c.lower.ensures))
    c.self.invariant.duals)

pub plus-self-inside-requires : goal.plus-self-inside-requires
plus-self-inside-requires g c =
    let law = g.met.N.SumNumber.numbers_law in
    let total = total_is law c.args.steps.now c.sum_up.new.sums c.index-room-steps.result (omega (arith, c.requires.room, c.sum_up.ensures.room)) c.sum_up.ensures.sums c.index-room-steps.is in
    omega (arith, sum_fits law c.args.steps.now c.requires.sums, sum_at law c.args.steps.now, total, c.self.invariant.duals.few_index, c.requires.top, g.met.N.SumNumber.wide_law)

pub raise-requires-2-clause-marks : goal.raise-requires-2-clause-marks
raise-requires-2-clause-marks g c =
    omega (arith, c.if-enters-side.false, c.side-side.ensures.side, c.self.invariant.duals.row_count, count_is g.met.N.SumNumber.numbers_law c.self.inside.rows.items)

pub raise-requires-2-clause-fits : goal.raise-requires-2-clause-fits
raise-requires-2-clause-fits g c = λ i h.
    let law = g.met.N.SumNumber.numbers_law in
    let v = c.self.invariant.duals in
    let within = v.rows_within i (omega (arith, h, v.row_count, count_is law c.self.inside.rows.items)) in
    omega (arith, sum_fits law c.args.steps.now c.requires.sums, within, v.few_index, c.requires.top, g.met.N.SumNumber.wide_law)

pub invariant_of-self-2 : goal.invariant_of-self-2
invariant_of-self-2 g c =
    let N = g.N.SumNumber in
    let law = g.met.N.SumNumber.numbers_law in
    let total = total_is law c.args.steps.now c.sum_up.new.sums c.index-room-steps.result (omega (arith, c.requires.room, c.sum_up.ensures.room)) c.sum_up.ensures.sums c.index-room-steps.is in
    let fits = fits_told (N.numbers c.args.steps.now) c.args.enters.now (cells_are g.met.N.SumNumber.present_law g.met.N.SumNumber.cells_law c.self.inside.kept.now) (ap N.numbers c.as_slice-rows.ensures.value) (ap N.numbers c.as_slice.ensures.value) c.rows_fit.ensures in
    duals_after c.self.invariant.duals c.self.view_is (N.numbers c.args.steps.now) c.args.enters.now c.args.leaves.now c.requires.sums
    (fits_allow c.self.invariant.duals c.self.view_is (N.numbers c.args.steps.now) c.args.enters.now c.args.leaves.now c.requires.sums c.raise.ensures (fits.0 c.if-not-rows_fit.false))
    c.requires.top c.raise-2.ensures c.raise.ensures (omega (arith, c.plus-self-inside.ensures, total))

pub returns-clause-admitted : goal.returns-clause-admitted
returns-clause-admitted g c =
    let N = g.N.SumNumber in
    let law = g.met.N.SumNumber.numbers_law in
    let told =
    phase_told c.self.invariant.duals c.self.view_is (N.numbers c.args.steps.now) c.args.enters.now c.args.leaves.now c.requires.sums c.raise.ensures
    (omega (arith, c.if-enters-side.false, c.side-side.ensures.side)) (omega (arith, c.if-leaves-side.false, c.side-side.ensures.side))
    (subst (λ n. AreCounted c.args.enters.now c.args.leaves.now n) (sym (count_is law c.args.steps.now)) (c.are_counted.ensures.0 c.if-not-are_counted.false))
    (fits_told (N.numbers c.args.steps.now) c.args.enters.now (cells_are g.met.N.SumNumber.present_law g.met.N.SumNumber.cells_law c.self.inside.kept.now) (ap N.numbers c.as_slice-rows.ensures.value) (ap N.numbers c.as_slice.ensures.value) c.rows_fit.ensures) in
    (λ _. told.0 c.if-not-rows_fit.false, λ _. refl)

pub returns-clause-applied : goal.returns-clause-applied
returns-clause-applied g c = λ _.
    let N = g.N.SumNumber in
    let law = g.met.N.SumNumber.numbers_law in
    let total = total_is law c.args.steps.now c.sum_up.new.sums c.index-room-steps.result (omega (arith, c.requires.room, c.sum_up.ensures.room)) c.sum_up.ensures.sums c.index-room-steps.is in
    let fits = fits_told (N.numbers c.args.steps.now) c.args.enters.now (cells_are g.met.N.SumNumber.present_law g.met.N.SumNumber.cells_law c.self.inside.kept.now) (ap N.numbers c.as_slice-rows.ensures.value) (ap N.numbers c.as_slice.ensures.value) c.rows_fit.ensures in
    phase_after c.self.invariant.duals c.self.view_is (N.numbers c.args.steps.now) c.args.enters.now c.args.leaves.now c.requires.sums
    (fits_allow c.self.invariant.duals c.self.view_is (N.numbers c.args.steps.now) c.args.enters.now c.args.leaves.now c.requires.sums c.raise.ensures (fits.0 c.if-not-rows_fit.false))
    c.requires.top c.raise-2.ensures c.raise.ensures (omega (arith, c.plus-self-inside.ensures, total))
