use Rattle.asg_algebra.proofs.Common.{◌≡◌, ℕ, ◌≤◌, ◌++◌, List, [], ◌∷◌, length, get_or, take, Some, sym, refl, ap, ◌∙◌, subst, arith, length-take, take_all, take_more, ArePushed, phase_of}
use Rattle.asg_algebra.proofs.SolvedLaws.{ArePushed-append, ArePushed-live, ArePushed-side, ArePushed-spare}
use Rattle.asg_algebra.proofs.ContinuedLaws.{over_at}
use Rattle.asg_algebra.proofs.continued.push_phases.Goals as goal

pub phases-init : goal.phases-init
phases-init g c = (refl, refl)

pub push-next-requires-clause-spare : goal.push-next-requires-clause-spare
push-next-requires-clause-spare g c =
    omega (arith, ArePushed-spare (take c.phases.k c.args.given.now) c.args.region.now c.phases.region c.args.trail c.phases.last c.phases.invariant, length-take c.phases.k c.args.given.now, c.requires.spare, c.phases-test.true)

pub push-next-requires-clause-parent : goal.push-next-requires-clause-parent
push-next-requires-clause-parent g c =
    ArePushed-live (take c.phases.k c.args.given.now) c.args.region.now c.phases.region c.args.trail c.phases.last c.phases.invariant c.requires.live

pub push-next-requires-clause-some_steps : goal.push-next-requires-clause-some_steps
push-next-requires-clause-some_steps g c =
    let over = over_at c.args.region.now.side c.args.given.now c.phases.k c.index-given-k.result c.phases-test.true c.index-given-k.is c.requires.over in
    subst (λ s. 1 ≤ length s) (sym c.steps.ensures) (omega (arith, over.some))

pub push-next-requires-clause-few_steps : goal.push-next-requires-clause-few_steps
push-next-requires-clause-few_steps g c =
    let over = over_at c.args.region.now.side c.args.given.now c.phases.k c.index-given-k.result c.phases-test.true c.index-given-k.is c.requires.over in
    let side = ArePushed-side (take c.phases.k c.args.given.now) c.args.region.now c.phases.region c.args.trail c.phases.last c.phases.invariant in
    subst (λ s. length s ≤ c.phases.region.side) (sym c.steps.ensures) (omega (arith, over.few, side))

pub push-next-requires-clause-enters : goal.push-next-requires-clause-enters
push-next-requires-clause-enters g c =
    let over = over_at c.args.region.now.side c.args.given.now c.phases.k c.index-given-k.result c.phases-test.true c.index-given-k.is c.requires.over in
    let side = ArePushed-side (take c.phases.k c.args.given.now) c.args.region.now c.phases.region c.args.trail c.phases.last c.phases.invariant in
    ap (λ (s : List ℕ). length s) c.enters.ensures.enters ∙ over.enters ∙ sym side

pub push-next-requires-clause-leaves : goal.push-next-requires-clause-leaves
push-next-requires-clause-leaves g c =
    let over = over_at c.args.region.now.side c.args.given.now c.phases.k c.index-given-k.result c.phases-test.true c.index-given-k.is c.requires.over in
    let side = ArePushed-side (take c.phases.k c.args.given.now) c.args.region.now c.phases.region c.args.trail c.phases.last c.phases.invariant in
    ap (λ (s : List ℕ). length s) c.leaves.ensures.leaves ∙ over.leaves ∙ sym side

pub phases-preserved : goal.phases-preserved
phases-preserved g c =
    let given = c.args.given.now in
    let k = c.phases.k in
    let pushed = c.push-next.ensures in
    let new = c.push-next.new.self in
    let next = c.push-next.result in
    let one = phase_of c.steps.result.now c.enters.result.now c.leaves.result.now in
    let same : one ≡ get_or given k c.index-given-k.result =
    (λ i. phase_of (c.steps.ensures i) (c.enters.ensures.enters i) (c.leaves.ensures.leaves i)) ∙ c.index-given-k.is in
    let last : ArePushed (one ∷ []) c.phases.region new c.phases.last (Some next) =
    (new, next, record { new = pushed.new; trails = pushed.trails; spare = pushed.spare; side = pushed.side }, (refl, refl)) in
    subst (λ phases. ArePushed phases c.args.region.now new c.args.trail (Some next))
    (ap (λ p. take k given ++ p ∷ []) same ∙ sym (take_more given k c.index-given-k.result c.phases-test.true))
    (ArePushed-append (take k given) (one ∷ []) c.args.region.now c.phases.region new c.args.trail c.phases.last (Some next) c.phases.invariant last)

pub returns : goal.returns
returns g c =
    let all : length c.args.given.now ≤ c.phases.k = omega (arith, c.phases-test.false) in
    subst (λ phases. ArePushed phases c.args.region.now c.phases.region c.args.trail c.phases.last) (take_all c.phases.k c.args.given.now all) c.phases.invariant
