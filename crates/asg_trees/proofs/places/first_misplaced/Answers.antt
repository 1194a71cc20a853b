use Rattle.asg_trees.proofs.Common.{◌≡◌, ◌+◌, ◌<◌, ◌≤◌, subst, ⊎_elim, arith, cases_lt, HasPlace}
use Rattle.asg_trees.proofs.places.first_misplaced.Goals as goal

pub loop-place-preserved : goal.loop-place-preserved
loop-place-preserved c n from upto =
    let place = c.loop-place.place in
    ⊎_elim
    (λ (old : n < place + 1). c.loop-place.invariant n from (omega (arith, old)))
    (λ (new : place + 1 ≤ n).
    let same : place + 1 ≡ n = omega (arith, new, upto) in
    subst (HasPlace c.args.branches c.args.nodes.now) same (c.has_place.ensures.0 c.if-not-has_place.false))
    (cases_lt n (place + 1))
