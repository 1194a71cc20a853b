use Rattle.asg_phase_totals.proofs.Common.{ℕ, ◌<◌, ◌≤◌, List, length, slice_index, sym, refl, ap, ◌∙◌, subst, inl, inr, true≢false, arith, false≢true, not_both, EndsSegment, IsLoweredBy, count_is, cell_at}
use Rattle.asg_phase_totals.proofs.segments.close_segment.Goals as goal

pub returns-then-is_ordered-clause-closed : goal.returns-then-is_ordered-clause-closed
returns-then-is_ordered-clause-closed g c = λ _. inl (c.is_ordered.ensures.0 c.if-is_ordered.true, refl, refl, refl)

pub returns-then-is_ordered-clause-refused : goal.returns-then-is_ordered-clause-refused
returns-then-is_ordered-clause-refused g c = λ h. absurd (true≢false h)

pub returns-then-not-segment_ends_well-clause-closed : goal.returns-then-not-segment_ends_well-clause-closed
returns-then-not-segment_ends_well-clause-closed g c = λ h. absurd (false≢true h)

pub returns-then-not-segment_ends_well-clause-refused : goal.returns-then-not-segment_ends_well-clause-refused
returns-then-not-segment_ends_well-clause-refused g c = λ _ ends.
    let N = g.N.SumNumber in
    let side = c.args.square.now.side in
    let square = λ (r k : ℕ). N.present (cell_at c.args.square.now r k) in
    let Ends = λ (rs cs : List g.row.N.Denot). EndsSegment side square (N.numbers rs) (N.numbers cs) c.args.segment.now in
    not_both c.segment_ends_well.result
    (c.segment_ends_well.ensures.1
    (subst (λ cs. Ends c.as_slice.result.now cs) (sym c.as_slice-2.ensures.value)
    (subst (λ rs. Ends rs c.args.columns.now.items) (sym c.as_slice.ensures.value) ends)))
    c.if-not-segment_ends_well.true

pub returns-clause-closed : goal.returns-clause-closed
returns-clause-closed g c = λ _.
    let N = g.N.SumNumber in
    let side = c.args.square.now.side in
    let square = λ (r k : ℕ). N.present (cell_at c.args.square.now r k) in
    let Ends = λ (rs cs : List g.row.N.Denot). EndsSegment side square (N.numbers rs) (N.numbers cs) c.args.segment.now in
    let rows = c.args.rows.now.items in
    let columns = c.args.columns.now.items in
    inr (record {
      ends =
          subst (λ rs. Ends rs columns) c.as_slice.ensures.value
          (subst (λ cs. Ends c.as_slice.result.now cs) c.as_slice-2.ensures.value
          (c.segment_ends_well.ensures.0 c.if-not-segment_ends_well.false));
      rows_lowered = subst (λ (xs : List ℕ). IsLoweredBy xs (N.numbers rows) (N.numbers c.lower_by.new.numbers.items)) c.rows.ensures.rows c.lower_by.ensures;
      columns_lowered = subst (λ (xs : List ℕ). IsLoweredBy xs (N.numbers columns) (N.numbers c.lower_by-2.new.numbers.items)) c.columns.ensures.columns c.lower_by-2.ensures;
      empty = c.clear.ensures.totals;
    })

pub returns-clause-refused : goal.returns-clause-refused
returns-clause-refused g c = λ h. absurd (true≢false h)

pub segment_ends_well-requires-clause-few_rows : goal.segment_ends_well-requires-clause-few_rows
segment_ends_well-requires-clause-few_rows g c =
    let N = g.N.SumNumber in
    subst (λ xs. (r : ℕ) → r < c.args.square.now.side → slice_index (N.numbers xs) r ≤ N.top) (sym c.as_slice.ensures.value) c.requires.few_rows

pub lower_by-requires-clause-count : goal.lower_by-requires-clause-count
lower_by-requires-clause-count g c = omega (arith, c.rows.ensures.count, c.requires.side, c.requires.row_count)

pub lower_by-requires-clause-part : goal.lower_by-requires-clause-part
lower_by-requires-clause-part g c = λ i h.
    let same = ap (λ (xs : List ℕ). slice_index xs i) c.rows.ensures.rows in
    omega (arith, same, c.requires.rows i (omega (arith, h, c.requires.row_count)))

pub lower_by-requires-2-clause-count : goal.lower_by-requires-2-clause-count
lower_by-requires-2-clause-count g c = omega (arith, c.columns.ensures.count, c.requires.side, c.requires.column_count)

pub lower_by-requires-2-clause-part : goal.lower_by-requires-2-clause-part
lower_by-requires-2-clause-part g c = λ i h.
    let same = ap (λ (xs : List ℕ). slice_index xs i) c.columns.ensures.columns in
    omega (arith, same, c.requires.columns i (omega (arith, h, c.requires.column_count)))

pub segment_ends_well-requires-clause-row_count : goal.segment_ends_well-requires-clause-row_count
segment_ends_well-requires-clause-row_count g c = ap length c.as_slice.ensures.value ∙ c.requires.row_count

pub segment_ends_well-requires-clause-column_count : goal.segment_ends_well-requires-clause-column_count
segment_ends_well-requires-clause-column_count g c = ap length c.as_slice-2.ensures.value ∙ c.requires.column_count

pub segment_ends_well-requires-clause-few_cells : goal.segment_ends_well-requires-clause-few_cells
segment_ends_well-requires-clause-few_cells g c = c.requires.few_cells

pub returns-clause-row_count : goal.returns-clause-row_count
returns-clause-row_count g c =
    let law = g.met.N.SumNumber.numbers_law in
    sym (count_is law c.lower_by.new.numbers.items) ∙ c.lower_by.ensures.count ∙ count_is law c.args.rows.now.items

pub returns-clause-column_count : goal.returns-clause-column_count
returns-clause-column_count g c =
    let law = g.met.N.SumNumber.numbers_law in
    sym (count_is law c.lower_by-2.new.numbers.items) ∙ c.lower_by-2.ensures.count ∙ count_is law c.args.columns.now.items

pub returns-clause-side : goal.returns-clause-side
returns-clause-side g c = c.clear.ensures.side
