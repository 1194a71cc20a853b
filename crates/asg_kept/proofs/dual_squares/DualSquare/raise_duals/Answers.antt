use Rattle.asg_kept.proofs.Common.{ℕ, ap, arith, phase_of, Reduced, count_is, sum_at}
use Rattle.asg_kept.proofs.DualPhases.{admitted_allows, duals_after, phase_after, sum_fits, total_is}
use Rattle.asg_kept.proofs.dual_squares.DualSquare.raise_duals.Goals as goal

pub sum_up-requires-clause-fits : goal.sum_up-requires-clause-fits
sum_up-requires-clause-fits g c =
    omega (arith, sum_fits g.met.N.SumNumber.numbers_law c.args.steps.now c.requires.sums, c.requires.top, g.met.N.SumNumber.wide_law)

pub plus-self-inside-requires : goal.plus-self-inside-requires
plus-self-inside-requires g c =
    let law = g.met.N.SumNumber.numbers_law in
    let total = total_is law c.args.steps.now c.sum_up.new.sums c.index-room-steps.result (omega (arith, c.requires.room, c.sum_up.ensures.room)) c.sum_up.ensures.sums c.index-room-steps.is in
    omega (arith, sum_fits law c.args.steps.now c.requires.sums, sum_at law c.args.steps.now, total, c.self.invariant.duals.few_index, c.requires.top, g.met.N.SumNumber.wide_law)

pub raise-requires-clause-marks : goal.raise-requires-clause-marks
raise-requires-clause-marks g c =
    let side = ap (λ (R : Reduced ℕ). R.now.side) c.self.view_is in
    omega (arith, c.requires.admitted.rows, side, c.self.invariant.duals.row_count, count_is g.met.N.SumNumber.numbers_law c.self.inside.rows.items)

pub raise-requires-clause-fits : goal.raise-requires-clause-fits
raise-requires-clause-fits g c = λ i h.
    let law = g.met.N.SumNumber.numbers_law in
    let v = c.self.invariant.duals in
    let within = v.rows_within i (omega (arith, h, v.row_count, count_is law c.self.inside.rows.items)) in
    omega (arith, sum_fits law c.args.steps.now c.requires.sums, within, v.few_index, c.requires.top, g.met.N.SumNumber.wide_law)

pub raise-requires-2-clause-marks : goal.raise-requires-2-clause-marks
raise-requires-2-clause-marks g c =
    let side = ap (λ (R : Reduced ℕ). R.now.side) c.self.view_is in
    omega (arith, c.requires.admitted.columns, side, c.self.invariant.duals.column_count, count_is g.met.N.SumNumber.numbers_law c.self.inside.columns.items)

pub raise-requires-2-clause-fits : goal.raise-requires-2-clause-fits
raise-requires-2-clause-fits g c = λ i h.
    let law = g.met.N.SumNumber.numbers_law in
    let v = c.self.invariant.duals in
    let within = v.columns_within i (omega (arith, h, v.column_count, count_is law c.self.inside.columns.items)) in
    omega (arith, sum_fits law c.args.steps.now c.requires.sums, within, v.few_index, c.requires.top, g.met.N.SumNumber.wide_law)

pub invariant_of-self : goal.invariant_of-self
invariant_of-self g c =
    let steps = g.N.SumNumber.numbers c.args.steps.now in
    let total = total_is g.met.N.SumNumber.numbers_law c.args.steps.now c.sum_up.new.sums c.index-room-steps.result (omega (arith, c.requires.room, c.sum_up.ensures.room)) c.sum_up.ensures.sums c.index-room-steps.is in
    duals_after c.self.invariant.duals c.self.view_is steps c.args.enters.now c.args.leaves.now c.requires.sums
    (admitted_allows c.self.invariant.duals c.self.view_is steps c.args.enters.now c.args.leaves.now c.requires.sums c.requires.admitted)
    c.requires.top c.raise.ensures c.raise-2.ensures (omega (arith, c.plus-self-inside.ensures, total))

pub returns-clause-phase : goal.returns-clause-phase
returns-clause-phase g c =
    let steps = g.N.SumNumber.numbers c.args.steps.now in
    let total = total_is g.met.N.SumNumber.numbers_law c.args.steps.now c.sum_up.new.sums c.index-room-steps.result (omega (arith, c.requires.room, c.sum_up.ensures.room)) c.sum_up.ensures.sums c.index-room-steps.is in
    phase_after c.self.invariant.duals c.self.view_is steps c.args.enters.now c.args.leaves.now c.requires.sums
    (admitted_allows c.self.invariant.duals c.self.view_is steps c.args.enters.now c.args.leaves.now c.requires.sums c.requires.admitted)
    c.requires.top c.raise.ensures c.raise-2.ensures (omega (arith, c.plus-self-inside.ensures, total))
