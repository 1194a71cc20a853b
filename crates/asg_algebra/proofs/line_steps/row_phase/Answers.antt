use Rattle.asg_algebra.proofs.LinePhases.{row_written, same_counts, written_bench}
use Rattle.asg_algebra.proofs.line_steps.row_phase.Goals as goal

pub returns-then-lowers_row-clause-admitted : goal.returns-then-lowers_row-clause-admitted
returns-then-lowers_row-clause-admitted g c = λ counted.
    let m = c.args.m.now in
    row_written (g.M.Ordered.monoid_of m) (g.M.DMonoid.difference m) (g.S.RowSquare.as_reduced c.args.square.now).now c.args.step c.requires.step
    c.args.row c.requires.bench c.write_row.ensures (same_counts c.deref.ensures.value c.deref-then-lowers_row.ensures.value (c.is_counted.ensures counted)) (c.lowers_row.ensures c.if-lowers_row.true)

pub returns-then-lowers_row-clause-bench : goal.returns-then-lowers_row-clause-bench
returns-then-lowers_row-clause-bench g c =
    let m = c.args.m.now in
    let Q = (g.S.RowSquare.as_reduced c.args.square.now).now in
    written_bench (g.M.Ordered.monoid_of m) (g.M.DMonoid.difference m) Q c.args.step c.requires.step Q.side c.requires.bench c.write_row.ensures
