use Rattle.asg_networks.proofs.Common.{[], ◌∷◌, ◌++◌, ap, ◌∙◌}
use Rattle.asg_networks.proofs.FirstTwice.{one_more_number}
use Rattle.asg_networks.proofs.links.numbers_to.Goals as goal

pub loop-number-preserved : goal.loop-number-preserved
loop-number-preserved c =
    let n = c.loop-number.number in
    c.in_ok-push.ensures.items ∙ ap (λ numbers. numbers ++ n ∷ []) c.loop-number.invariant ∙ one_more_number n
