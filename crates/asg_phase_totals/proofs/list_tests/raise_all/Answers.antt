use Rattle.asg_phase_totals.proofs.Common.{◌≡◌, ◌<◌, length, take, slice_index, sym, ap, ◌∙◌, subst, arith, take_all, CountsRight, row_raise, column_raise, sum_to, numbered, count_is, all_is, phase_count_is, phase_is, sum}
use Rattle.asg_phase_totals.proofs.SegmentLemmas.{row_raise-more, column_raise-more, row_raise-few, column_raise-few, sum_with_one}
use Rattle.asg_phase_totals.proofs.list_tests.raise_all.Goals as goal

pub sum_up-requires-clause-fits : goal.sum_up-requires-clause-fits
sum_up-requires-clause-fits g c =
    let N = g.N.SumNumber in
    let law = g.met.N.SumNumber.numbers_law in
    let phases_law = g.met.N.SumNumber.phases_law in
    let ps = c.args.phases.now in
    let i = c.loop-i.i in
    let phase = numbered N.numbers c.index-phases-i.result in
    let is = phase_is law phases_law ps i c.index-phases-i.result c.loop-i-test.true c.index-phases-i.is in
    let below : i < length (N.phases ps) = omega (arith, c.loop-i-test.true, phase_count_is law phases_law ps) in
    let more = sum_with_one (N.phases ps) i phase below is in
    let all = all_is law c.steps.result.now in
    let same = ap (λ xs. sum (N.numbers xs)) c.steps.ensures in
    omega (arith, more, all, same, c.requires.few, g.met.N.SumNumber.wide_law)

pub raise-requires-clause-fits : goal.raise-requires-clause-fits
raise-requires-clause-fits g c = λ r h.
    let N = g.N.SumNumber in
    let law = g.met.N.SumNumber.numbers_law in
    let phases_law = g.met.N.SumNumber.phases_law in
    let ps = c.args.phases.now in
    let i = c.loop-i.i in
    let phase = numbered N.numbers c.index-phases-i.result in
    let is = phase_is law phases_law ps i c.index-phases-i.result c.loop-i-test.true c.index-phases-i.is in
    let below : i < length (N.phases ps) = omega (arith, c.loop-i-test.true, phase_count_is law phases_law ps) in
    let more = sum_with_one (N.phases ps) i phase below is in
    let all = all_is law c.steps-in-loop-i.result.now in
    let same = ap (λ xs. sum (N.numbers xs)) c.steps-in-loop-i.ensures in
    let so = c.loop-i.invariant.rows r (omega (arith, h, c.loop-i.invariant.row_count)) in
    omega (arith, more, all, same, so, row_raise-few (take i (N.phases ps)) r, c.requires.few, g.met.N.SumNumber.wide_law)

pub raise-requires-in-loop-i-clause-fits : goal.raise-requires-in-loop-i-clause-fits
raise-requires-in-loop-i-clause-fits g c = λ k h.
    let N = g.N.SumNumber in
    let law = g.met.N.SumNumber.numbers_law in
    let phases_law = g.met.N.SumNumber.phases_law in
    let ps = c.args.phases.now in
    let i = c.loop-i.i in
    let phase = numbered N.numbers c.index-phases-i.result in
    let is = phase_is law phases_law ps i c.index-phases-i.result c.loop-i-test.true c.index-phases-i.is in
    let below : i < length (N.phases ps) = omega (arith, c.loop-i-test.true, phase_count_is law phases_law ps) in
    let more = sum_with_one (N.phases ps) i phase below is in
    let all = all_is law c.steps-in-loop-i-2.result.now in
    let same = ap (λ xs. sum (N.numbers xs)) c.steps-in-loop-i-2.ensures in
    let so = c.loop-i.invariant.columns k (omega (arith, h, c.loop-i.invariant.column_count)) in
    omega (arith, more, all, same, so, column_raise-few (take i (N.phases ps)) k, c.requires.few, g.met.N.SumNumber.wide_law)

pub raise-requires-clause-marks : goal.raise-requires-clause-marks
raise-requires-clause-marks g c =
    let N = g.N.SumNumber in
    let law = g.met.N.SumNumber.numbers_law in
    let phases_law = g.met.N.SumNumber.phases_law in
    let ps = c.args.phases.now in
    let i = c.loop-i.i in
    let phase = numbered N.numbers c.index-phases-i.result in
    let is = phase_is law phases_law ps i c.index-phases-i.result c.loop-i-test.true c.index-phases-i.is in
    let below : i < length (N.phases ps) = omega (arith, c.loop-i-test.true, phase_count_is law phases_law ps) in
    let right = subst (CountsRight (length c.args.rows.now.items)) (sym is) (c.requires.right i phase below) in
    ap length c.enters.ensures.enters ∙ right.rows ∙ sym c.loop-i.invariant.row_count

pub raise-requires-in-loop-i-clause-marks : goal.raise-requires-in-loop-i-clause-marks
raise-requires-in-loop-i-clause-marks g c =
    let N = g.N.SumNumber in
    let law = g.met.N.SumNumber.numbers_law in
    let phases_law = g.met.N.SumNumber.phases_law in
    let ps = c.args.phases.now in
    let i = c.loop-i.i in
    let phase = numbered N.numbers c.index-phases-i.result in
    let is = phase_is law phases_law ps i c.index-phases-i.result c.loop-i-test.true c.index-phases-i.is in
    let below : i < length (N.phases ps) = omega (arith, c.loop-i-test.true, phase_count_is law phases_law ps) in
    let right = subst (CountsRight (length c.args.rows.now.items)) (sym is) (c.requires.right i phase below) in
    ap length c.leaves.ensures.leaves ∙ right.columns ∙ sym c.loop-i.invariant.column_count

pub loop-i-preserved : goal.loop-i-preserved
loop-i-preserved g c =
    let N = g.N.SumNumber in
    let law = g.met.N.SumNumber.numbers_law in
    let phases_law = g.met.N.SumNumber.phases_law in
    let ps = c.args.phases.now in
    let i = c.loop-i.i in
    let phase = numbered N.numbers c.index-phases-i.result in
    let is = phase_is law phases_law ps i c.index-phases-i.result c.loop-i-test.true c.index-phases-i.is in
    let below : i < length (N.phases ps) = omega (arith, c.loop-i-test.true, phase_count_is law phases_law ps) in
    let so = c.loop-i.invariant in
    record {
      row_count = sym (count_is law c.raise.new.duals.items) ∙ c.raise.ensures.count ∙ count_is law c.loop-i.rows.items ∙ so.row_count;
      column_count = sym (count_is law c.raise-in-loop-i.new.duals.items) ∙ c.raise-in-loop-i.ensures.count ∙ count_is law c.loop-i.columns.items ∙ so.column_count;
      rows = λ r h.
          let raised = c.raise.ensures.each r (omega (arith, h, so.row_count, count_is law c.loop-i.rows.items)) in
          let more = row_raise-more (N.phases ps) i phase below r is in
          let same : sum_to (N.numbers c.steps-in-loop-i.result.now) (slice_index c.enters.result.now r) ≡ sum_to phase.steps (slice_index phase.enters r) =
          ap (λ xs. sum_to (N.numbers xs) (slice_index c.enters.result.now r)) c.steps-in-loop-i.ensures ∙ ap (λ xs. sum_to phase.steps (slice_index xs r)) c.enters.ensures.enters in
          omega (arith, raised, more, same, so.rows r h);
      columns = λ k h.
          let raised = c.raise-in-loop-i.ensures.each k (omega (arith, h, so.column_count, count_is law c.loop-i.columns.items)) in
          let more = column_raise-more (N.phases ps) i phase below k is in
          let same : sum_to (N.numbers c.steps-in-loop-i-2.result.now) (slice_index c.leaves.result.now k) ≡ sum_to phase.steps (slice_index phase.leaves k) =
          ap (λ xs. sum_to (N.numbers xs) (slice_index c.leaves.result.now k)) c.steps-in-loop-i-2.ensures ∙ ap (λ xs. sum_to phase.steps (slice_index xs k)) c.leaves.ensures.leaves in
          omega (arith, raised, more, same, so.columns k h);
      room = c.sum_up.ensures.room ∙ so.room;
    }

pub returns-clause-rows : goal.returns-clause-rows
returns-clause-rows g c = λ r h.
    let N = g.N.SumNumber in
    let law = g.met.N.SumNumber.numbers_law in
    let phases_law = g.met.N.SumNumber.phases_law in
    let ps = c.args.phases.now in
    c.loop-i.invariant.rows r h
    ∙ ap (λ p. row_raise p r) (take_all c.loop-i.i (N.phases ps) (omega (arith, c.loop-i-test.false, phase_count_is law phases_law ps)))

pub returns-clause-columns : goal.returns-clause-columns
returns-clause-columns g c = λ k h.
    let N = g.N.SumNumber in
    let law = g.met.N.SumNumber.numbers_law in
    let phases_law = g.met.N.SumNumber.phases_law in
    let ps = c.args.phases.now in
    c.loop-i.invariant.columns k h
    ∙ ap (λ p. column_raise p k) (take_all c.loop-i.i (N.phases ps) (omega (arith, c.loop-i-test.false, phase_count_is law phases_law ps)))
