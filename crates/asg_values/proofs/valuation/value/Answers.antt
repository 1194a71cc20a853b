-- The value is that of at most 1,000 costs in range.
use Rattle.asg_values.proofs.Common.{◌≡◌, sym, subst, IfOk-weaker, IsValueInRange, value_of, Value}
use Rattle.asg_values.proofs.ValueRanges.{value_of-in_range}
use Rattle.asg_values.proofs.valuation.value.Goals as goal

pub returns-clause-in_range : goal.returns-clause-in_range
returns-clause-in_range c =
    let objective = c.args.objective in
    let costs = c.in_ok-costs.costs.items in
    IfOk-weaker c.value_of.result (λ v. v ≡ value_of objective costs) (IsValueInRange objective)
    (λ v is. subst (λ (w : Value). IsValueInRange objective w) (sym is)
    (value_of-in_range objective costs c.in_ok-costs.ensures.few c.in_ok-costs.ensures.in_range))
    (rw c.as_slice.ensures.value at c.value_of.ensures.exact)
