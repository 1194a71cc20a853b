use Rattle.asg_phase_totals.proofs.Common.{◌<◌, ◌≤◌, [], ◌∷◌, ◌++◌, length, take, All, sym, refl, ap, ◌∙◌, subst, arith, take_all, All-push, take_more, never, not_both, CountsRight, numbered, phase_count_is, phase_is}
use Rattle.asg_phase_totals.proofs.list_tests.all_count_right.Goals as goal

pub loop-i-preserved : goal.loop-i-preserved
loop-i-preserved g c =
    let N = g.N.SumNumber in
    let law = g.met.N.SumNumber.numbers_law in
    let phases_law = g.met.N.SumNumber.phases_law in
    let ps = c.args.phases.now in
    let i = c.loop-i.i in
    let phase = numbered N.numbers c.index-phases-i.result in
    let is = phase_is law phases_law ps i c.index-phases-i.result c.loop-i-test.true c.index-phases-i.is in
    let below : i < length (N.phases ps) = omega (arith, c.loop-i-test.true, phase_count_is law phases_law ps) in
    let phases = N.phases ps in
    let one = take_more phases i phase below ∙ ap (λ p. take i phases ++ p ∷ []) (sym is) in
    subst (All (CountsRight c.args.side)) (sym one)
    (All-push (CountsRight c.args.side) (take i phases) phase c.loop-i.invariant (c.counts_right.ensures.0 c.if-not-counts_right.false))

pub returns-then-not-counts_right : goal.returns-then-not-counts_right
returns-then-not-counts_right g c =
    let N = g.N.SumNumber in
    let law = g.met.N.SumNumber.numbers_law in
    let phases_law = g.met.N.SumNumber.phases_law in
    let ps = c.args.phases.now in
    let i = c.loop-i.i in
    let phase = numbered N.numbers c.index-phases-i.result in
    let is = phase_is law phases_law ps i c.index-phases-i.result c.loop-i-test.true c.index-phases-i.is in
    let below : i < length (N.phases ps) = omega (arith, c.loop-i-test.true, phase_count_is law phases_law ps) in
    never (λ all. not_both c.counts_right.result
    (c.counts_right.ensures.1 (subst (CountsRight c.args.side) (sym is) (all i phase below)))
    c.if-not-counts_right.true)

pub returns : goal.returns
returns g c =
    let N = g.N.SumNumber in
    let law = g.met.N.SumNumber.numbers_law in
    let phases_law = g.met.N.SumNumber.phases_law in
    let ps = c.args.phases.now in
    let past : length (N.phases ps) ≤ c.loop-i.i = omega (arith, c.loop-i-test.false, phase_count_is law phases_law ps) in (
      λ _. subst (All (CountsRight c.args.side)) (take_all c.loop-i.i (N.phases ps) past) c.loop-i.invariant,
      λ _. refl,
    )
