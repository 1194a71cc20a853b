use Rattle.asg_networks.proofs.Common.{rules, IsNonDecreasingBy-from_sort_by_key, order_number}
use Rattle.asg_networks.proofs.links.sort_by_ends.Goals as goal

pub returns-clause-ascending : goal.returns-clause-ascending
returns-clause-ascending c = IsNonDecreasingBy-from_sort_by_key (order_number c.args.links.now) _ c.sort_unstable_by_key.ensures.sorted (λ a r q k. search rules)
