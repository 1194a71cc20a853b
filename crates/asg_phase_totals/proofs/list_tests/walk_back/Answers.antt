use Rattle.asg_phase_totals.proofs.Common.{◌≡◌, ℕ, ◌+◌, ◌-◌, ◌<◌, List, ◌∷◌, length, get_or, slice_index, sym, refl, ap, ◌∙◌, subst, arith, never, AreTotals, CanPrecede, CountsRight, EndsSegment, numbered, count_is, phase_count_is, phase_is, value_is, column_within, PhaseOf, phase_of, cell_at}
use Rattle.asg_phase_totals.proofs.WalkLemmas.{Walked, walked_start, walked_row, walked_row_part, walked_column_part, walked_on, walked_ends, walked_all, walked_sum, walked_more}
use Rattle.asg_phase_totals.proofs.list_tests.walk_back.Goals as goal

pub phases-init : goal.phases-init
phases-init g c =
    let N = g.N.SumNumber in
    let law = g.met.N.SumNumber.numbers_law in
    let side = c.args.square.now.side in
    let phases = N.phases c.args.phases.now in
    let square = λ (r k : ℕ). N.present (cell_at c.args.square.now r k) in
    let rows = N.numbers c.args.rows.now.items in
    let columns = N.numbers c.args.columns.now.items in
    let count = phase_count_is law g.met.N.SumNumber.phases_law c.args.phases.now in
    record {
      walked =
          subst (λ n. Walked N.top side phases square n rows columns c.clear.new.self)
          (let e : length phases ≡ length c.args.phases.now - 0 = omega (arith, count) in e)
          (walked_start N.top side phases square rows columns c.clear.new.self
          c.requires.rows c.requires.columns (c.clear.ensures.side ∙ c.requires.side) c.clear.ensures.totals);
      row_count = refl;
      column_count = refl;
      room = refl;
    }

pub close_segment-requires-clause-few_rows : goal.close_segment-requires-clause-few_rows
close_segment-requires-clause-few_rows g c =
    let N = g.N.SumNumber in
    let side = c.args.square.now.side in
    let phases = N.phases c.args.phases.now in
    let square = λ (r k : ℕ). N.present (cell_at c.args.square.now r k) in
    let j = length c.args.phases.now - c.phases.back in
    let rows = N.numbers c.phases.rows.items in
    let columns = N.numbers c.phases.columns.items in
    let walked = c.phases.invariant.walked in
    walked_row N.top side phases square c.requires.few c.requires.cells j rows columns c.phases.segment walked

pub close_segment-requires-clause-few_cells : goal.close_segment-requires-clause-few_cells
close_segment-requires-clause-few_cells g c = λ r k x hr is.
    let N = g.N.SumNumber in
    let Q = c.args.square.now in
    let within = value_is g.met.N.SumNumber.present_law (k < Q.side) (cell_at Q r k) x is (λ y here. column_within Q r k y here) in
    let below = c.requires.cells r k x hr within is in
    omega (arith, below)

pub close_segment-requires-clause-rows : goal.close_segment-requires-clause-rows
close_segment-requires-clause-rows g c =
    let N = g.N.SumNumber in
    let side = c.args.square.now.side in
    let phases = N.phases c.args.phases.now in
    let square = λ (r k : ℕ). N.present (cell_at c.args.square.now r k) in
    let j = length c.args.phases.now - c.phases.back in
    let rows = N.numbers c.phases.rows.items in
    let columns = N.numbers c.phases.columns.items in
    let walked = c.phases.invariant.walked in
    walked_row_part N.top side phases square c.requires.few c.requires.cells j rows columns c.phases.segment walked

pub close_segment-requires-clause-columns : goal.close_segment-requires-clause-columns
close_segment-requires-clause-columns g c =
    let N = g.N.SumNumber in
    let side = c.args.square.now.side in
    let phases = N.phases c.args.phases.now in
    let square = λ (r k : ℕ). N.present (cell_at c.args.square.now r k) in
    let j = length c.args.phases.now - c.phases.back in
    let rows = N.numbers c.phases.rows.items in
    let columns = N.numbers c.phases.columns.items in
    let walked = c.phases.invariant.walked in
    walked_column_part N.top side phases square c.requires.few c.requires.cells j rows columns c.phases.segment walked

pub returns-then-not-close_segment-clause-told : goal.returns-then-not-close_segment-clause-told
returns-then-not-close_segment-clause-told g c = λ top above.
    let N = g.N.SumNumber in
    let side = c.args.square.now.side in
    let phases = N.phases c.args.phases.now in
    let square = λ (r k : ℕ). N.present (cell_at c.args.square.now r k) in
    let j = length c.args.phases.now - c.phases.back in
    let rows = N.numbers c.phases.rows.items in
    let columns = N.numbers c.phases.columns.items in
    let walked = c.phases.invariant.walked in
    never (λ all. c.close_segment.ensures.refused c.if-not-close_segment.true
    (walked_ends N.top side phases square c.requires.few c.requires.cells j rows columns c.phases.segment walked top above all))

pub phases-preserved : goal.phases-preserved
phases-preserved g c =
    let N = g.N.SumNumber in
    let law = g.met.N.SumNumber.numbers_law in
    let side = c.args.square.now.side in
    let phases = N.phases c.args.phases.now in
    let square = λ (r k : ℕ). N.present (cell_at c.args.square.now r k) in
    let phase_count = phase_count_is law g.met.N.SumNumber.phases_law c.args.phases.now in
    let j_before = length c.args.phases.now - c.phases.back in
    let rows_before = N.numbers c.phases.rows.items in
    let columns_before = N.numbers c.phases.columns.items in
    let walked_before = c.phases.invariant.walked in
    let rows = N.numbers c.close_segment.new.rows.items in
    let columns = N.numbers c.close_segment.new.columns.items in
    let totals = c.close_segment.new.segment in
    let so = c.phases.invariant in
    let j : ℕ = length c.args.phases.now - (c.phases.back + 1) in
    let given_phase = c.index-phases-count.result in
    let phase : PhaseOf ℕ = numbered N.numbers given_phase in
    let inside : j < length c.args.phases.now = omega (arith, c.phases-test.true) in
    let below : j < length phases = omega (arith, inside, phase_count) in
    let step : length c.args.phases.now - c.phases.back ≡ j + 1 = omega (arith, c.phases-test.true) in
    let count : length totals.rows ≡ side = c.close_segment.ensures.side ∙ so.walked.count in
    let row_count : length rows_before ≡ side = count_is law c.phases.rows.items ∙ so.row_count ∙ c.requires.row_count in
    let column_count : length columns_before ≡ side = count_is law c.phases.columns.items ∙ so.column_count ∙ c.requires.column_count in
    let on = walked_on N.top side phases square c.requires.few c.requires.cells j_before rows_before columns_before c.phases.segment so.walked rows columns totals
    row_count column_count count
    (c.close_segment.ensures.closed c.if-not-close_segment.false) in
    let walked : Walked N.top side phases square (j + 1) rows columns totals = subst (λ n. Walked N.top side phases square n rows columns totals) step on.0 in
    let read : given_phase ≡ get_or c.args.phases.now j given_phase = c.index-phases-count.is ∙ ap (λ n. get_or c.args.phases.now n given_phase) (let e : length c.args.phases.now - 1 - c.phases.back ≡ j = omega arith in e) in
    let is : phase ≡ get_or phases j phase = phase_is law g.met.N.SumNumber.phases_law c.args.phases.now j given_phase inside read in
    let given : phase_of (N.numbers c.steps.result.now) c.enters.result.now c.leaves.result.now ≡ phase =
    ap (λ xs. phase_of (N.numbers xs) c.enters.result.now c.leaves.result.now) c.steps.ensures
    ∙ ap (λ xs. phase_of phase.steps xs c.leaves.result.now) c.enters.ensures.enters
    ∙ ap (λ xs. phase_of phase.steps phase.enters xs) c.leaves.ensures.leaves in
    let right : CountsRight (length totals.rows) phase =
    subst (λ n. CountsRight n phase) (sym count) (subst (CountsRight side) (sym is) (c.requires.right j phase below)) in
    let can : CanPrecede N.top phase totals = record {
      right = right;
      ordered = on.1;
      few = let sums = walked_sum N.top side phases square j rows columns totals phase walked below is in omega (arith, sums, c.requires.few);
    } in
    let taken = c.put_before.ensures.taken.1 (subst (λ (p : PhaseOf ℕ). CanPrecede N.top p totals) (sym given) can) in
    record {
      walked = walked_more N.top side phases square j rows columns totals c.put_before.new.self phase walked below is
          (c.put_before.ensures.side ∙ count)
          (subst (λ (p : PhaseOf ℕ). AreTotals (p ∷ walked.middle) c.put_before.new.self) given (c.put_before.ensures.totals taken walked.middle walked.are));
      row_count = c.close_segment.ensures.row_count ∙ so.row_count;
      column_count = c.close_segment.ensures.column_count ∙ so.column_count;
      room = c.put_before.ensures.room ∙ so.room;
    }

pub segment_ends_well-requires-clause-few_cells : goal.segment_ends_well-requires-clause-few_cells
segment_ends_well-requires-clause-few_cells g c = λ r k x hr is.
    let N = g.N.SumNumber in
    let Q = c.args.square.now in
    let within = value_is g.met.N.SumNumber.present_law (k < Q.side) (cell_at Q r k) x is (λ y here. column_within Q r k y here) in
    let below = c.requires.cells r k x hr within is in
    omega (arith, below)

pub segment_ends_well-requires-clause-few_rows : goal.segment_ends_well-requires-clause-few_rows
segment_ends_well-requires-clause-few_rows g c = λ r h.
    let N = g.N.SumNumber in
    let side = c.args.square.now.side in
    let phases = N.phases c.args.phases.now in
    let square = λ (r k : ℕ). N.present (cell_at c.args.square.now r k) in
    let j = length c.args.phases.now - c.phases.back in
    let rows = N.numbers c.phases.rows.items in
    let columns = N.numbers c.phases.columns.items in
    let walked = c.phases.invariant.walked in
    let few = walked_row N.top side phases square c.requires.few c.requires.cells j rows columns c.phases.segment walked r h in
    let same = ap (λ xs. slice_index (N.numbers xs) r) c.as_slice.ensures.value in
    omega (arith, few, same)

pub returns-clause-told : goal.returns-clause-told
returns-clause-told g c = λ top above.
    let N = g.N.SumNumber in
    let side = c.args.square.now.side in
    let phases = N.phases c.args.phases.now in
    let square = λ (r k : ℕ). N.present (cell_at c.args.square.now r k) in
    let rows = N.numbers c.phases.rows.items in
    let columns = N.numbers c.phases.columns.items in
    let done : length c.args.phases.now - c.phases.back ≡ 0 = omega (arith, c.phases-test.false) in
    let walked : Walked N.top side phases square 0 rows columns c.phases.segment = subst (λ n. Walked N.top side phases square n rows columns c.phases.segment) done c.phases.invariant.walked in
    let Ends = λ (rs cs : List g.row.N.Denot). EndsSegment side square (N.numbers rs) (N.numbers cs) c.phases.segment in (
      λ yes. walked_all N.top side phases square c.requires.few c.requires.cells rows columns c.phases.segment walked
          (subst (λ rs. Ends rs c.phases.columns.items) c.as_slice.ensures.value
          (subst (λ cs. Ends c.as_slice.result.now cs) c.as_slice-2.ensures.value
          (c.segment_ends_well.ensures.0 yes)))
          top above,
      λ all. c.segment_ends_well.ensures.1
          (subst (λ cs. Ends c.as_slice.result.now cs) (sym c.as_slice-2.ensures.value)
          (subst (λ rs. Ends rs c.phases.columns.items) (sym c.as_slice.ensures.value)
          (walked_ends N.top side phases square c.requires.few c.requires.cells 0 rows columns c.phases.segment walked top above all))),
    )
