use Rattle.asg_kept.proofs.Common.{◌≡◌, ℕ, length, replicate, Option, subst, arith, IsGreatest, numbered_grid, count_is, zeros_are, cells_are, grid_is}
use Rattle.asg_kept.proofs.ZeroDuals.{duals_start, greatest_few, start_is, unwritten, zeros_at}
use Rattle.asg_kept.proofs.dual_squares.DualSquare.make.Goals as goal

pub invariant_of-result : goal.invariant_of-result
invariant_of-result g c =
    let N = g.N.SumNumber in
    let law = g.met.N.SumNumber.numbers_law in
    let Q = c.args.reduced.now in
    let G = numbered_grid N.cells Q in
    let n = c.side-side.result in
    let rows = c.clear.new.numbers.items in
    let columns = c.clear-2.new.numbers.items in
    let rows_are : N.numbers rows ≡ replicate n 0 = zeros_are law rows n (omega (arith, c.clear.ensures.count, c.in_ok-rows.ensures.len)) (λ i h. c.clear.ensures.each i (omega (arith, h, c.clear.ensures.count))) in
    let columns_are : N.numbers columns ≡ replicate n 0 = zeros_are law columns n (omega (arith, c.clear-2.ensures.count, c.in_ok-columns.ensures.len)) (λ i h. c.clear-2.ensures.each i (omega (arith, h, c.clear-2.ensures.count))) in
    let grid = grid_is g.met.N.SumNumber.present_law g.met.N.SumNumber.cells_law Q c.side-side.ensures.grid in
    let row_zero = zeros_at (N.numbers rows) n rows_are in
    let column_zero = zeros_at (N.numbers columns) n columns_are in
    let row_count : length (N.numbers rows) ≡ Q.side = omega (arith, count_is law rows, c.clear.ensures.count, c.in_ok-rows.ensures.len, c.side-side.ensures.side) in
    let column_count : length (N.numbers columns) ≡ Q.side = omega (arith, count_is law columns, c.clear-2.ensures.count, c.in_ok-columns.ensures.len, c.side-side.ensures.side) in
    let top = N.number c.args.top in
    let index = N.number c.args.reduced.index in
    let greatest = N.number c.greatest_cell-greatest.result in
    let so = subst (λ (square : ℕ → ℕ → Option ℕ). IsGreatest Q.side square greatest) (cells_are g.met.N.SumNumber.present_law g.met.N.SumNumber.cells_law Q) c.greatest_cell-greatest.ensures in
    let few = greatest_few G grid (N.numbers rows) (N.numbers columns) row_zero column_zero row_count column_count {bound = N.top} top index greatest c.requires.top c.requires.reduced so in
    unwritten
    (duals_start G grid (N.numbers rows) (N.numbers columns) row_zero column_zero row_count column_count {bound = N.top} top index greatest c.requires.top c.requires.reduced
    (λ r k x h is. so.above r k x h is) few)

pub returns : goal.returns
returns g c =
    let N = g.N.SumNumber in
    let law = g.met.N.SumNumber.numbers_law in
    let Q = c.args.reduced.now in
    let n = c.side-side.result in
    let rows = c.clear.new.numbers.items in
    let columns = c.clear-2.new.numbers.items in
    let rows_are : N.numbers rows ≡ replicate n 0 = zeros_are law rows n (omega (arith, c.clear.ensures.count, c.in_ok-rows.ensures.len)) (λ i h. c.clear.ensures.each i (omega (arith, h, c.clear.ensures.count))) in
    let columns_are : N.numbers columns ≡ replicate n 0 = zeros_are law columns n (omega (arith, c.clear-2.ensures.count, c.in_ok-columns.ensures.len)) (λ i h. c.clear-2.ensures.each i (omega (arith, h, c.clear-2.ensures.count))) in
    start_is (numbered_grid N.cells Q) (grid_is g.met.N.SumNumber.present_law g.met.N.SumNumber.cells_law Q c.side-side.ensures.grid) (N.numbers rows) (N.numbers columns)
    (zeros_at (N.numbers rows) n rows_are) (zeros_at (N.numbers columns) n columns_are) (N.number c.args.reduced.index)
