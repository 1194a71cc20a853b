use Rattle.asg_phase_totals.proofs.Common.{◌≡◌, ℕ, ◌+◌, subst, arith, IsGreaterOf, values_are, cell_at}
use Rattle.asg_phase_totals.proofs.GreatestLemmas.{greater_none, greater_one, greater_more, none_greater}
use Rattle.asg_phase_totals.proofs.greatest_cells.greater_in_piece.Goals as goal

pub returns-then-is_none_above : goal.returns-then-is_none_above
returns-then-is_none_above g c =
    let N = g.N.SumNumber in
    let law = g.met.N.SumNumber.numbers_law in
    let Q = c.args.square.now in
    let values = c.args.values.now in
    none_greater N.number N.numbers law (λ k. N.present (cell_at Q c.args.row k)) Q.side c.args.from c.args.to (N.number c.args.so_far) values
    (values_are g.met.N.SumNumber.present_law law (cell_at Q c.args.row) Q.side values c.requires.values)
    c.requires.within
    (c.is_none_above.ensures c.if-is_none_above.true)

pub loop-column-init : goal.loop-column-init
loop-column-init g c =
    let N = g.N.SumNumber in
    greater_none (λ k. N.present (cell_at c.args.square.now c.args.row k)) c.args.from (N.number c.args.so_far)

pub loop-column-preserved : goal.loop-column-preserved
loop-column-preserved g c =
    let N = g.N.SumNumber in
    let l = c.loop-column in
    let e = c.greater-greatest.ensures in
    let row = λ (k : ℕ). N.present (cell_at c.args.square.now c.args.row k) in
    greater_more row c.args.from l.column (l.column + 1) (N.number c.args.so_far) (N.number l.greatest) (N.number c.greater-greatest.result) l.invariant
    (greater_one row l.column (N.number l.greatest) (N.number c.greater-greatest.result) e.above e.grows e.reached)

pub returns : goal.returns
returns g c =
    let N = g.N.SumNumber in
    let l = c.loop-column in
    let whole : l.column ≡ c.args.to = omega (arith, c.loop-column-test.false, l.auto.column-end, c.requires.order) in
    subst (λ (n : ℕ). IsGreaterOf c.args.from n (λ k. N.present (cell_at c.args.square.now c.args.row k)) (N.number c.args.so_far) (N.number l.greatest)) whole l.invariant
