use Rattle.asg_algebra.proofs.Common.{◌≡◌, None, subst, replicate}
use Rattle.asg_algebra.proofs.continued.take_given.Goals as goal

pub led_copy-requires-clause-none : goal.led_copy-requires-clause-none
led_copy-requires-clause-none g c =
    subst (λ n. c.in_ok-matching.matching ≡ replicate n None) c.side.ensures.side c.in_ok-matching.ensures.empty
