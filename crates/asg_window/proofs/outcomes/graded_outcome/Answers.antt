use Rattle.asg_window.proofs.Common.{◌≡◌, length, subst, arith, HasCosts}
use Rattle.asg_window.proofs.CostLemmas.{HasCosts-grades, count_fits}
use Rattle.asg_window.proofs.outcomes.graded_outcome.Goals as goal

pub overflow_cast-result : goal.overflow_cast-result
overflow_cast-result c =
    let few = count_fits c.args.inst.now c.args.cells.now.square.now c.rows-rows.ensures.instance c.requires.square c.args.cells.now.entries.now c.requires.entries c.in_ok-grades.grades.items c.in_ok-grades.ensures in
    omega (arith, few, c.len-then-len.ensures)

pub returns-then-len-clause-refusal : goal.returns-then-len-clause-refusal
returns-then-len-clause-refusal c =
    let costs = HasCosts-grades c.args.inst.now c.args.cells.now.square.now c.rows-rows.ensures.instance c.requires.square c.args.cells.now.entries.now c.requires.entries c.in_ok-grades.grades.items c.in_ok-grades.ensures in
    let count : length c.in_ok-grades.grades.items ≡ c.len-then-len.result = omega (arith, c.len-then-len.ensures, c.in_ok-grades.grades.ok.0) in
    (subst (HasCosts c.args.inst.now) count costs, omega (arith, c.if-len.true, c.len.ensures, c.len-then-len.ensures))

pub returns-clause-few : goal.returns-clause-few
returns-clause-few c =
    record {
      count = length c.in_ok-grades.grades.items;
      costs = HasCosts-grades c.args.inst.now c.args.cells.now.square.now c.rows-rows.ensures.instance c.requires.square c.args.cells.now.entries.now c.requires.entries c.in_ok-grades.grades.items c.in_ok-grades.ensures;
      few = omega (arith, c.if-len.false, c.len.ensures);
    }
