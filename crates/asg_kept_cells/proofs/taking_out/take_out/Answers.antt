use Rattle.asg_kept_cells.proofs.Common.{◌≡◌, sym, ◌∙◌, subst, arith, TakesOutRow, TakesOutRows}
use Rattle.asg_kept_cells.proofs.CellLemmas.{rows_more, rows_none, taken_out}
use Rattle.asg_kept_cells.proofs.taking_out.take_out.Goals as goal

pub loop-row-init : goal.loop-row-init
loop-row-init g c = rows_none c.args.kept.now c.args.square.now

pub take_out_row-requires-clause-size : goal.take_out_row-requires-clause-size
take_out_row-requires-clause-size g c =
    let side = sym c.loop-row.invariant.labels.side in
    record { rows = c.requires.rows ∙ side; columns = c.requires.columns ∙ side }

pub loop-row-preserved : goal.loop-row-preserved
loop-row-preserved g c =
    let so_far = c.loop-row.square in
    let after = c.take_out_row.new.square in
    rows_more c.args.kept.now c.args.square.now c.loop-row.row so_far after c.loop-row.invariant
    (subst (λ n. TakesOutRow c.args.kept.now c.loop-row.row n so_far after) c.loop-row.invariant.labels.side c.take_out_row.ensures)

pub returns-clause-cells : goal.returns-clause-cells
returns-clause-cells g c =
    let Q = c.args.square.now in
    let after = c.loop-row.square in
    let all : c.loop-row.row ≡ Q.side = omega (arith, c.loop-row-test.false, c.loop-row.auto.row-end, c.side-row-end.ensures.side) in
    taken_out c.args.kept.now Q after c.side-row-end.ensures.grid (record { rows = c.requires.rows; columns = c.requires.columns })
    (subst (λ n. TakesOutRows c.args.kept.now n Q after) all c.loop-row.invariant)
