use Rattle.asg_phase_totals.proofs.Common.{◌≡◌, ℕ, ◌+◌, ◌*◌, min, subst, arith, IsGreaterOf, cell_at}
use Rattle.asg_phase_totals.proofs.GreatestLemmas.{greater_none, greater_more}
use Rattle.asg_phase_totals.proofs.greatest_cells.greater_in_row.Goals as goal

pub overflow_mul-from : goal.overflow_mul-from
overflow_mul-from g c = omega (arith, c.side-side.ensures.grid.table.few, c.side-side.ensures.side, c.loop-number-test.true, c.div_ceil-number-end.ensures)

pub overflow_add-next : goal.overflow_add-next
overflow_add-next g c = omega (arith, c.side-side.ensures.grid.table.few, c.side-side.ensures.side, c.loop-number-test.true, c.div_ceil-number-end.ensures)

pub greater_in_piece-greatest-requires-clause-order : goal.greater_in_piece-greatest-requires-clause-order
greater_in_piece-greatest-requires-clause-order g c = omega (arith, c.side-side.ensures.side, c.loop-number-test.true, c.div_ceil-number-end.ensures, c.min-to.ensures)

pub greater_in_piece-greatest-requires-clause-within : goal.greater_in_piece-greatest-requires-clause-within
greater_in_piece-greatest-requires-clause-within g c = omega (arith, c.side-side.ensures.side, c.min-to.ensures)

pub loop-number-init : goal.loop-number-init
loop-number-init g c =
    let N = g.N.SumNumber in
    let Q = c.args.square.now in
    let row = λ (k : ℕ). N.present (cell_at Q c.args.row k) in
    let none : 0 ≡ min (64 * 0) Q.side = omega arith in
    subst (λ (n : ℕ). IsGreaterOf 0 n row (N.number c.args.so_far) (N.number c.args.so_far)) none (greater_none row 0 (N.number c.args.so_far))

pub loop-number-preserved : goal.loop-number-preserved
loop-number-preserved g c =
    let N = g.N.SumNumber in
    let Q = c.args.square.now in
    let l = c.loop-number in
    let row = λ (k : ℕ). N.present (cell_at Q c.args.row k) in
    let from = 64 * l.number in
    let to = c.min-to.result in
    let begins : min from Q.side ≡ from = omega (arith, c.loop-number-test.true, c.div_ceil-number-end.ensures, c.side-side.ensures.side) in
    let ends : to ≡ min (64 * (l.number + 1)) Q.side = omega (arith, c.min-to.ensures, c.side-side.ensures.side) in
    subst (λ (n : ℕ). IsGreaterOf 0 n row (N.number c.args.so_far) (N.number c.greater_in_piece-greatest.result)) ends
    (greater_more row 0 from to (N.number c.args.so_far) (N.number l.greatest) (N.number c.greater_in_piece-greatest.result)
    (subst (λ (n : ℕ). IsGreaterOf 0 n row (N.number c.args.so_far) (N.number l.greatest)) begins l.invariant)
    c.greater_in_piece-greatest.ensures)

pub returns : goal.returns
returns g c =
    let N = g.N.SumNumber in
    let Q = c.args.square.now in
    let l = c.loop-number in
    let row = λ (k : ℕ). N.present (cell_at Q c.args.row k) in
    let whole : min (64 * l.number) Q.side ≡ Q.side = omega (arith, c.loop-number-test.false, c.div_ceil-number-end.ensures, c.side-side.ensures.side) in
    subst (λ (n : ℕ). IsGreaterOf 0 n row (N.number c.args.so_far) (N.number l.greatest)) whole l.invariant
