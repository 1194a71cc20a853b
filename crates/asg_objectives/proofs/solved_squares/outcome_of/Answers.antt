use Rattle.asg_objectives.proofs.Common.{◌≡◌, map, IfSome, sym, ap, ◌∙◌, subst, IfOk-weaker, AreOfValues, KeepsLabels, HasLabelsOf-kept, admitted_values, last_of, EndsIn, IsBestBy, IsNothingBy, IsSquareOutcome, IsLive, phases_to, worded, AreFewPhases, GivesFewPhases, IsPresent, cell_at}
use Rattle.asg_match.specs.Deficient.{IsDeficient}
use Rattle.asg_objectives.proofs.LedSquares.{IsPerfect-present, IsFoldOutcome-best, IsFoldOutcome-nothing, GivesFewPhases-best, GivesFewPhases-nothing, AreFewPhases-words}
use Rattle.asg_objectives.proofs.solved_squares.outcome_of.Goals as goal

pub best-requires-clause-perfect : goal.best-requires-clause-perfect
best-requires-clause-perfect g c =
    let M = g.M.Ordered.monoid_of c.args.m.now in
    let after = c.args.found.reduced in
    let memory = c.args.workplace in
    IsPerfect-present M after.index (cell_at after.now) after.now.side memory.matching
    (subst (EndsIn M after memory.matching memory.bench.rows) c.in-Perfect.is c.requires.2.ends)

pub best-requires-clause-live : goal.best-requires-clause-live
best-requires-clause-live g c =
    let solved = c.requires.2.solved in
    subst (λ o. IfSome (last_of o) (IsLive c.args.workplace.region)) c.in-Perfect.is solved.live

pub best-requires-clause-values : goal.best-requires-clause-values
best-requires-clause-values g c =
    let m = c.args.m.now in
    let M = g.M.Ordered.monoid_of m in
    let s = c.requires.2 in
    let solved = s.solved in
    let phases = solved.phases in
    let lead = solved.lead in
    subst (λ o. AreOfValues M (phases_to c.args.workplace.region (last_of o))) c.in-Perfect.is
    (subst (AreOfValues M) (sym solved.list) (admitted_values M (g.M.DMonoid.difference m) s.before.now.side phases (cell_at s.before.now) lead.admitted))

pub returns-in-Perfect-clause-outcome : goal.returns-in-Perfect-clause-outcome
returns-in-Perfect-clause-outcome g c Q s =
    let m = c.args.m.now in
    let M = g.M.Ordered.monoid_of m in
    let d = g.M.DMonoid.difference m in
    let w = worded (g.M.Written.word_of m) in
    let X = c.args.inst.now in
    let after = c.args.found.reduced in
    let memory = c.args.workplace in
    let solved = s.solved in
    let phases = solved.phases in
    let lead = solved.lead in
    let ends = subst (EndsIn M after memory.matching memory.bench.rows) c.in-Perfect.is s.ends in
    let list : phases_to memory.region c.in-Perfect.last ≡ phases = ap (λ o. phases_to memory.region (last_of o)) (sym c.in-Perfect.is) ∙ solved.list in
    IfOk-weaker c.best.result (IsBestBy after.now memory.matching (map w (phases_to memory.region c.in-Perfect.last))) (IsSquareOutcome M d (g.M.Written.word_of m) X Q)
    (λ outcome by enter square live.
    IsFoldOutcome-best M (g.met.M.Ordered.laws m) d X c.rows-rows.ensures.instance Q s.before after s.start s.at_unit phases _ _ _ _ lead
    (record { folds = c.square_law.ensures.folds; presence = c.square_law.ensures.presence; choice = c.grid_law.ensures.choice })
    enter square live c.fold_law.ensures memory.matching ends (g.M.Written.word_of m) outcome
    (subst (λ ps. IsBestBy after.now memory.matching (map w ps) outcome) list by))
    c.best.ensures

pub returns-in-Perfect-clause-phases : goal.returns-in-Perfect-clause-phases
returns-in-Perfect-clause-phases g c Q s =
    let m = c.args.m.now in
    let w = worded (g.M.Written.word_of m) in
    let after = c.args.found.reduced in
    let memory = c.args.workplace in
    let solved = s.solved in
    let phases = solved.phases in
    let lead = solved.lead in
    let words = map w (phases_to memory.region c.in-Perfect.last) in
    let list : phases_to memory.region c.in-Perfect.last ≡ phases = ap (λ o. phases_to memory.region (last_of o)) (sym c.in-Perfect.is) ∙ solved.list in
    let few : AreFewPhases Q.side words =
    subst (λ q. AreFewPhases q.side words) s.start
    (subst (λ ps. AreFewPhases s.before.now.side (map w ps)) (sym list)
    (AreFewPhases-words (g.M.Ordered.monoid_of m) (g.M.DMonoid.difference m) (g.M.Written.word_of m) s.before after phases _ _ _ _ lead s.matching solved.few s.over)) in
    IfOk-weaker c.best.result (IsBestBy after.now memory.matching words) (GivesFewPhases Q.side)
    (λ outcome by. GivesFewPhases-best after.now memory.matching words Q.side outcome few by)
    c.best.ensures

pub nothing-outcome-requires-clause-labels : goal.nothing-outcome-requires-clause-labels
nothing-outcome-requires-clause-labels g c =
    let s = c.requires.2 in
    let after = c.args.found.reduced in
    let lead = s.solved.lead in
    HasLabelsOf-kept c.args.inst.now c.requires.0 after.now (subst (λ q. KeepsLabels q after.now) s.start lead.labels) c.requires.1

pub nothing-outcome-requires-clause-short : goal.nothing-outcome-requires-clause-short
nothing-outcome-requires-clause-short g c =
    let M = g.M.Ordered.monoid_of c.args.m.now in
    let after = c.args.found.reduced in
    let memory = c.args.workplace in
    subst (IsDeficient (IsPresent (cell_at after.now)) after.now.side) (sym c.violator.ensures.rows)
    (subst (EndsIn M after memory.matching memory.bench.rows) c.in-Short.is c.requires.2.ends)

pub returns-in-Short-clause-outcome : goal.returns-in-Short-clause-outcome
returns-in-Short-clause-outcome g c Q s =
    let m = c.args.m.now in
    let M = g.M.Ordered.monoid_of m in
    let d = g.M.DMonoid.difference m in
    let X = c.args.inst.now in
    let after = c.args.found.reduced in
    let phases = s.solved.phases in
    let lead = s.solved.lead in
    IfOk-weaker c.nothing-outcome.result (IsNothingBy X after.now) (IsSquareOutcome M d (g.M.Written.word_of m) X Q)
    (λ outcome by enter square live.
    IsFoldOutcome-nothing M (g.met.M.Ordered.laws m) d X c.rows-rows.ensures.instance Q s.before after s.start s.at_unit phases _ _ _ _ lead
    (record { folds = c.square_law.ensures.folds; presence = c.square_law.ensures.presence; choice = c.grid_law.ensures.choice })
    enter square (g.M.Written.word_of m) outcome by)
    c.nothing-outcome.ensures

pub returns-in-Short-clause-phases : goal.returns-in-Short-clause-phases
returns-in-Short-clause-phases g c Q s =
    let X = c.args.inst.now in
    let after = c.args.found.reduced in
    IfOk-weaker c.nothing-outcome.result (IsNothingBy X after.now) (GivesFewPhases Q.side)
    (λ outcome by. GivesFewPhases-nothing X after.now Q.side outcome by)
    c.nothing-outcome.ensures
