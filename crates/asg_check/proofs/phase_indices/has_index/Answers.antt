use Rattle.asg_check.proofs.Common.{sym, ap, ◌∙◌, subst}
use Rattle.asg_check.proofs.KnownTold.{proves_index}
use Rattle.asg_order.specs.Bridge.{choice_fold}
use Rattle.asg_order.specs.Monoid.{IsValue}
use Rattle.asg_proof.specs.FoldProofs.{ProvesFold}
use Rattle.asg_verdicts.specs.PhaseReasons.{AreAdmitted}
use Rattle.asg_check.proofs.phase_indices.has_index.Goals as goal

pub is_same-requires-clause-right : goal.is_same-requires-clause-right
is_same-requires-clause-right g c = subst (λ n. IsValue (g.K.M.Ordered.monoid_of n) c.chosen_fold-value.result) (sym c.monoid-m.ensures) c.chosen_fold-value.ensures.is_value

pub is_same-requires-clause-left : goal.is_same-requires-clause-left
is_same-requires-clause-left g c = rw c.in-Some.is at c.in_ok-index.ensures.is_value

pub returns-in-Some : goal.returns-in-Some
returns-in-Some g c = λ yes.
    let kind = c.args.kind.now in
    let X = c.args.inst.now in
    let choice = c.args.choice.now in
    let words = c.args.phases.now in
    let m = c.monoid-m.result.now in
    let enter = g.K.Kind.entered kind in
    let fold = c.chosen_fold-value.ensures.fold ∙ ap (λ n. choice_fold (g.K.M.Ordered.monoid_of n) enter X choice) (sym c.monoid-m.ensures) in
    subst (λ n. AreAdmitted (g.K.M.Ordered.monoid_of n) (g.K.M.DMonoid.difference n) (g.K.M.Written.word_of n) enter X words → ProvesFold (g.K.M.Ordered.monoid_of n) (g.K.M.DMonoid.difference n) (g.K.M.Written.word_of n) enter X choice words)
    c.monoid-m.ensures
    (proves_index (g.K.M.Ordered.monoid_of m) (g.K.M.DMonoid.difference m) (g.K.M.Written.word_of m) enter X choice words c.in-Some.index
    (rw c.in-Some.is at c.in_ok-index.ensures.index) (c.is_same.ensures.0 yes ∙ fold))
