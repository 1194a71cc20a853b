-- The sorted list turned round is the list in non-increasing order.
use Rattle.asg_values.proofs.Common.{ap, ◌∙◌, descending}
use Rattle.asg_values.proofs.DescendingLists.{reverse-sorted_is}
use Rattle.asg_values.proofs.descents.descending.Goals as goal

pub returns : goal.returns
returns c =
    c.from_vec.ensures
    ∙ reverse-sorted_is c.in_ok-parts.parts.items c.sort_unstable.new.self.items c.reverse.new.self.items c.sort_unstable.ensures.permutation c.sort_unstable.ensures.sorted c.reverse.ensures.items
    ∙ ap descending c.in_ok-parts.ensures
