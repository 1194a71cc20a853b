-- Each turn adds one column's part.
use Rattle.asg_values.proofs.Common.{◌≡◌, ℕ, ◌+◌, ◌<◌, ◌≤◌, false, cond, length, get_or, take, sym, ap, ◌∙◌, arith, enumerate_from, reached_part, no_column, sum_by}
use Rattle.asg_values.specs.laws.Elements.{sum_by-enumerate_more, take-enumerate_all, part-le}
use Rattle.asg_values.proofs.hall_sets.reached_capacity.Goals as goal

pub loop-place-preserved : goal.loop-place-preserved
loop-place-preserved c =
    let X = c.args.inst.now in
    let i = c.loop-place.place in
    let columns = c.columns-column-items.ensures.columns in
    let within : i < length X.columns = rw columns at c.loop-place-test.true in
    let step = sum_by-enumerate_more (reached_part X c.args.band c.args.rows.now) X.columns i no_column within in
    let mark = get_or c.reached_columns-reached.result i false in
    let here : c.part_of-total.result ≡ cond mark (get_or X.columns i no_column).cap 0 = rw columns at c.part_of-total.ensures in
    let part = here ∙ ap (λ b. cond {A = ℕ} b (get_or X.columns i no_column).cap 0) (c.reached_columns-reached.ensures i within) in
    let small = c.columns-column-items.ensures.instance.well_formed.capacities i no_column within in
    let turn = ap (λ (t : ℕ). t + c.part_of-total.result) c.loop-place.invariant.0 in
    let last = ap (λ (p : ℕ). sum_by (reached_part X c.args.band c.args.rows.now) (take i (enumerate_from 0 X.columns)) + p) part in
    let at_most : c.part_of-total.result ≤ 1000 = rw here (part-le _ _ 1000 (λ _. small.1)) in
    (turn ∙ last ∙ sym step, omega arith)

pub returns-clause-exact : goal.returns-clause-exact
returns-clause-exact c =
    let columns = c.columns-column-items.ensures.columns in
    c.loop-place.invariant.0 ∙ ap (sum_by (reached_part c.args.inst.now c.args.band c.args.rows.now)) (take-enumerate_all c.args.inst.now.columns c.loop-place.place (rw columns at c.loop-place-test.false))
