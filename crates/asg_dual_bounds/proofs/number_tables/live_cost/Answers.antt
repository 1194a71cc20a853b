use Rattle.asg_dual_bounds.proofs.Common.{IfSome, sym, subst, IsCostInRange, live_in_range}
use Rattle.asg_dual_bounds.proofs.number_tables.live_cost.Goals as goal

pub returns-clause-in_range : goal.returns-clause-in_range
returns-clause-in_range c =
    subst (λ o. IfSome o IsCostInRange) (sym c.cost_if_open.ensures)
    (live_in_range c.args.inst.now c.columns-columns.ensures.instance c.args.row c.args.column)
