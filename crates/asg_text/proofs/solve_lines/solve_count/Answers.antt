use Rattle.std.proofs.Common.{◌+◌, ◌≤◌, ap, length, arith}
use Rattle.std.proofs.lemmas.Grind.{common_steps}
use Rattle.std.proofs.lemmas.List.{drop_all}
use Rattle.asg_text.specs.SolveLines.{solve_count}
use Rattle.asg_text.proofs.Counted.{counted_more, solve_count-le}
use Rattle.asg_text.proofs.solve_lines.solve_count.Goals as goal

pub lines-preserved : goal.lines-preserved
lines-preserved c =
    let lines = c.args.lines.now in
    let l = c.lines in
    let more = counted_more lines l.place _ c.solves-count.result c.lines-test.true c.solves-count.ensures in
    omega (arith, more, l.invariant)

pub returns : goal.returns
returns c =
    let none = ap solve_count (drop_all c.lines.place c.args.lines.now (omega (arith, c.lines-test.false))) in
    omega (arith, none, c.lines.invariant)

pub overflow_add-count : goal.overflow_add-count
overflow_add-count c =
    let lines = c.args.lines.now in
    let l = c.lines in
    let more = counted_more lines l.place _ c.solves-count.result c.lines-test.true c.solves-count.ensures in
    let room : l.count + c.solves-count.result ≤ length lines = omega (arith, more, l.invariant, solve_count-le lines) in
    grind (arith, common_steps)
