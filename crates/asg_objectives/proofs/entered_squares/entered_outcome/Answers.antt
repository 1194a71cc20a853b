use Rattle.asg_objectives.proofs.Common.{IfOk, sym, subst, IfOk-weaker, IsFoldOutcome, IsSquareOutcome, GivesFewPhases, HasValues, cell_at}
use Rattle.asg_objectives.proofs.EnteredOutcomes.{EntersValues-may}
use Rattle.asg_objectives.proofs.LedSquares.{HasValues-of_square}
use Rattle.asg_objectives.proofs.entered_squares.entered_outcome.Goals as goal

pub outcome-requires-clause-values : goal.outcome-requires-clause-values
outcome-requires-clause-values g c =
    let kind = c.args.kind.now in
    let k = g.K.Kind.monoid kind in
    let M = g.K.M.Ordered.monoid_of k in
    let X = c.args.inst.now in
    let enter = g.K.Kind.entered kind in
    let Q = c.args.square in
    let live = EntersValues-may M enter (g.K.Kind.objective kind) (g.K.Kind.reach kind) X c.requires.reach c.rows-rows.ensures.instance c.requires.passes (g.met.K.Kind.enters_value kind) in
    subst (λ n. HasValues (g.K.M.Ordered.monoid_of n) Q.side (cell_at Q)) (sym c.monoid.ensures)
    (HasValues-of_square M (g.met.K.M.Ordered.laws k) X enter Q c.requires.square live)

pub returns-clause-outcome : goal.returns-clause-outcome
returns-clause-outcome g c =
    let kind = c.args.kind.now in
    let k = g.K.Kind.monoid kind in
    let M = g.K.M.Ordered.monoid_of k in
    let d = g.K.M.DMonoid.difference k in
    let word = g.K.M.Written.word_of k in
    let X = c.args.inst.now in
    let enter = g.K.Kind.entered kind in
    let Q = c.args.square in
    let live = EntersValues-may M enter (g.K.Kind.objective kind) (g.K.Kind.reach kind) X c.requires.reach c.rows-rows.ensures.instance c.requires.passes (g.met.K.Kind.enters_value kind) in
    IfOk-weaker c.outcome.result (IsSquareOutcome M d word X Q) (IsFoldOutcome M d word enter X)
    (λ outcome by. by enter c.requires.square live)
    (subst (λ n. IfOk c.outcome.result (IsSquareOutcome (g.K.M.Ordered.monoid_of n) (g.K.M.DMonoid.difference n) (g.K.M.Written.word_of n) X Q)) c.monoid.ensures c.outcome.ensures.outcome)

pub returns-clause-phases : goal.returns-clause-phases
returns-clause-phases g c = subst (λ n. IfOk c.outcome.result (GivesFewPhases n)) c.requires.square.labels.side c.outcome.ensures.phases
