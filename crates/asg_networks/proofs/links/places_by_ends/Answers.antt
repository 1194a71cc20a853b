use Rattle.asg_networks.proofs.Common.{subst, rules, IsPermutation}
use Rattle.asg_networks.proofs.FirstTwice.{by_ends}
use Rattle.asg_networks.proofs.links.places_by_ends.Goals as goal

pub returns-clause-sorted : goal.returns-clause-sorted
returns-clause-sorted c =
    by_ends c.args.links.now c.in-Ok.count c.sort_by_ends.new.places.items (search rules) (subst (λ numbers. IsPermutation numbers c.sort_by_ends.new.places.items) c.in_ok-places.ensures c.sort_by_ends.ensures.permutation)
    c.sort_by_ends.ensures.ascending
