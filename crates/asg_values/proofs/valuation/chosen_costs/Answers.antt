-- One more row.
use Rattle.asg_values.proofs.Common.{◌≡◌, ◌++◌, length, option_to_list, filter_map, sym, ap, ◌∙◌, arith, length-append, All-append, range_with_len, IsCostInRange, chosen_cost}
use Rattle.asg_values.proofs.Steps.{length-option_to_list-le, All-option_to_list}
use Rattle.asg_model.specs.laws.Listing.{filter_map-range_more}
use Rattle.asg_values.proofs.valuation.chosen_costs.Goals as goal

pub loop-row-preserved : goal.loop-row-preserved
loop-row-preserved c =
    let cost_of = chosen_cost c.args.inst.now c.args.choice.now in
    let row = c.loop-row.row in
    let old = c.loop-row.costs.items in
    let cost = c.chosen_cost.result in
    let inv = c.loop-row.invariant in
    let pushed : c.push_some.new.costs.items ≡ old ++ option_to_list cost = c.in_ok-push_some.ensures in (
      pushed ∙ ap (λ list. list ++ option_to_list cost) inv.0
          ∙ ap (λ o. filter_map cost_of (range_with_len 0 row) ++ option_to_list o) c.chosen_cost.ensures.exact
          ∙ sym (filter_map-range_more cost_of row),
      omega (arith, ap length pushed, length-append old (option_to_list cost), length-option_to_list-le cost, inv.1),
      rw pushed (All-append IsCostInRange old (option_to_list cost) inv.2 (All-option_to_list IsCostInRange cost c.chosen_cost.ensures.in_range)),
    )
