use Rattle.asg_algebra.proofs.LinePhases.{column_written, same_counts, written_bench}
use Rattle.asg_algebra.proofs.line_steps.column_phase.Goals as goal

pub returns-then-lowers_column-clause-admitted : goal.returns-then-lowers_column-clause-admitted
returns-then-lowers_column-clause-admitted g c = λ counted.
    let m = c.args.m.now in
    column_written (g.M.Ordered.monoid_of m) (g.M.DMonoid.difference m) (g.S.RowSquare.as_reduced c.args.square.now).now c.args.step c.requires.step
    c.args.column c.requires.bench c.write_column.ensures (same_counts c.deref.ensures.value c.deref-then-lowers_column.ensures.value (c.is_counted.ensures counted)) (c.lowers_column.ensures c.if-lowers_column.true)

pub returns-then-lowers_column-clause-bench : goal.returns-then-lowers_column-clause-bench
returns-then-lowers_column-clause-bench g c =
    let m = c.args.m.now in
    let Q = (g.S.RowSquare.as_reduced c.args.square.now).now in
    written_bench (g.M.Ordered.monoid_of m) (g.M.DMonoid.difference m) Q c.args.step c.requires.step Q.side c.requires.bench c.write_column.ensures
