use Rattle.asg_kept.proofs.Common.{◌≡◌, ℕ, List, length, replicate, slice_index, Option, option_map, ap, ◌∙◌, arith, dual_value, zeros_are, cell_at}
use Rattle.asg_kept.proofs.ZeroDuals.{zero_map, zeros_at}
use Rattle.asg_kept.proofs.dual_cells.write_out.Goals as goal

pub returns-then-is_written-clause-cells : goal.returns-then-is_written-clause-cells
returns-then-is_written-clause-cells g c r k h l =
    let N = g.N.SumNumber in
    let is = c.if-is_written.true in
    zero_map (slice_index (N.numbers c.args.rows.now.items) r) (slice_index (N.numbers c.args.columns.now.items) k) (N.present (cell_at c.args.square.now r k)) (c.requires.zero_rows is r) (c.requires.zero_columns is k)

pub returns-clause-cells : goal.returns-clause-cells
returns-clause-cells g c r k h l =
    let N = g.N.SumNumber in
    let square = c.args.square.now in
    c.write_cells.ensures.cells r k h l
    ∙ ap (λ (xs : List g.row.N.Denot). option_map (dual_value (slice_index (N.numbers xs) r) (slice_index (N.numbers c.as_slice-2.result.now) k)) (N.present (cell_at square r k))) c.as_slice.ensures.value
    ∙ ap (λ (xs : List g.row.N.Denot). option_map (dual_value (slice_index (N.numbers c.args.rows.now.items) r) (slice_index (N.numbers xs) k)) (N.present (cell_at square r k))) c.as_slice-2.ensures.value

pub returns-clause-zero_rows : goal.returns-clause-zero_rows
returns-clause-zero_rows g c =
    let N = g.N.SumNumber in
    let items = c.clear.new.numbers.items in
    zeros_at (N.numbers items) (length items)
    (zeros_are g.met.N.SumNumber.numbers_law items (length items) (omega arith) (λ i h. c.clear.ensures.each i (omega (arith, h, c.clear.ensures.count))))

pub returns-clause-zero_columns : goal.returns-clause-zero_columns
returns-clause-zero_columns g c =
    let N = g.N.SumNumber in
    let items = c.clear-2.new.numbers.items in
    zeros_at (N.numbers items) (length items)
    (zeros_are g.met.N.SumNumber.numbers_law items (length items) (omega arith) (λ i h. c.clear-2.ensures.each i (omega (arith, h, c.clear-2.ensures.count))))
