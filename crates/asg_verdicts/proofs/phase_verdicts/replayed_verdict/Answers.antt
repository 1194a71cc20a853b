use Rattle.asg_verdicts.proofs.Common.{sym, ap, ◌∙◌, subst, choice_fold, IsValue, StandsOver, Tells, phase_reasons, IsStart}
use Rattle.asg_verdicts.proofs.PhaseTold.{told_over}
use Rattle.asg_verdicts.proofs.phase_verdicts.replayed_verdict.Goals as goal

pub square_verdict-requires-clause-reduced : goal.square_verdict-requires-clause-reduced
square_verdict-requires-clause-reduced g c =
    (subst (λ n. IsStart (g.K.M.Ordered.monoid_of n) (g.K.Kind.entered c.args.kind.now) c.args.inst.now c.in_ok-start.start) (sym c.monoid.ensures) c.in_ok-start.ensures).reduced

pub square_verdict-requires-clause-unit : goal.square_verdict-requires-clause-unit
square_verdict-requires-clause-unit g c =
    (subst (λ n. IsStart (g.K.M.Ordered.monoid_of n) (g.K.Kind.entered c.args.kind.now) c.args.inst.now c.in_ok-start.start) (sym c.monoid.ensures) c.in_ok-start.ensures).index

pub square_verdict-requires-clause-value : goal.square_verdict-requires-clause-value
square_verdict-requires-clause-value g c =
    subst (λ n. IsValue (g.K.M.Ordered.monoid_of n) c.chosen_fold-fold.result) (sym c.monoid.ensures) c.chosen_fold-fold.ensures.is_value

pub returns : goal.returns
returns g c =
    let kind = c.args.kind.now in
    let X = c.args.inst.now in
    let m = c.monoid.result.now in
    let enter = g.K.Kind.entered kind in
    let at = subst (λ n. IsStart (g.K.M.Ordered.monoid_of n) enter X c.in_ok-start.start) (sym c.monoid.ensures) c.in_ok-start.ensures in
    let fold = c.chosen_fold-fold.ensures.fold ∙ ap (λ n. choice_fold (g.K.M.Ordered.monoid_of n) enter X c.args.choice.now) (sym c.monoid.ensures) in
    subst (λ n. Tells (StandsOver (g.K.M.Ordered.monoid_of n) (g.K.M.DMonoid.difference n) (g.K.M.Written.word_of n) enter X c.args.choice.now c.args.phases.now) phase_reasons c.in_ok-verdict.verdict)
    c.monoid.ensures
    (told_over (g.K.M.Ordered.monoid_of m) (g.K.M.DMonoid.difference m) (g.K.M.Written.word_of m) enter X c.in_ok-start.start c.chosen_fold-fold.result
    c.args.choice.now c.args.phases.now c.in_ok-verdict.verdict at fold
    c.in_ok-verdict.ensures)
