use Rattle.asg_kept_cells.proofs.Common.{get_or, ◌==◌, refl, ap, bit_at-zero, kept_cells}
use Rattle.asg_kept_cells.proofs.MetColumns.{met_more}
use Rattle.asg_kept_cells.proofs.hall_tests.met_in_word.Goals as goal

pub loop-place-init : goal.loop-place-init
loop-place-init g c k below = ap (λ n. n == 1) (bit_at-zero k)

pub loop-place-preserved : goal.loop-place-preserved
loop-place-preserved g c =
    let rows = c.args.rows.now in
    let l = c.loop-place in
    met_more (kept_cells c.args.square.now c.args.kept.now) rows c.args.number l.place l.met (get_or rows l.place 0) c.kept_columns-met.result c.loop-place-test.true refl l.invariant c.kept_columns-met.ensures
