use Rattle.asg_edits.proofs.Common.{sym, subst, IsBestBy}
use Rattle.asg_edits.proofs.SessionFacts.{IsChoiceIn-by}
use Rattle.asg_edits.proofs.chosen_sessions.last_choice.Goals as goal

pub returns : goal.returns
returns g c =
    let s = c.args.session.now in
    let m = g.K.Kind.monoid s.kind in
    IsChoiceIn-by (g.K.M.Ordered.monoid_of m) (g.K.M.DMonoid.difference m) (g.K.M.Written.word_of m) (g.K.Kind.entered s.kind) s.instance s.phases s.columns c.choice.result.now c.in_ok-choice.choice
    (subst (λ f. IsBestBy (g.K.M.Ordered.monoid_of m) (g.K.M.DMonoid.difference m) (g.K.Kind.entered s.kind) s.instance s.phases s.columns f) (sym c.choice.ensures.value) c.choice.ensures.best)
    c.in_ok-choice.ensures
