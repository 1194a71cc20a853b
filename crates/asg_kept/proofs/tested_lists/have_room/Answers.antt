use Rattle.asg_kept.proofs.Common.{◌<◌, [], ◌∷◌, ◌++◌, length, take, All, sym, ap, ◌∙◌, subst, arith, take_all, All-push, take_more}
use Rattle.asg_kept.proofs.tested_lists.have_room.Goals as goal

pub phases-preserved : goal.phases-preserved
phases-preserved g c =
    let k = c.phases.k in
    let given = c.args.given.now in
    let phase = c.index-given-k.result in
    let one = take_more given k phase c.phases-test.true ∙ ap (λ p. take k given ++ p ∷ []) (sym c.index-given-k.is) in
    let few : length phase.steps < c.args.places = omega (arith, c.if-steps-places.false, ap length c.steps.ensures) in
    subst (All (λ p. length p.steps < c.args.places)) (sym one)
    (All-push (λ p. length p.steps < c.args.places) (take k given) phase c.phases.invariant few)

pub returns : goal.returns
returns g c = λ _. subst (All (λ p. length p.steps < c.args.places)) (take_all c.phases.k c.args.given.now c.phases-test.false) c.phases.invariant
