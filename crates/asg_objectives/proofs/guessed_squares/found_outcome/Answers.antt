use Rattle.asg_objectives.proofs.Common.{◌≡◌, map, IfSome, sym, ap, ◌∙◌, subst, AreOfValues, admitted_values, last_of, EndsIn, IsBestBy, IsLive, phases_to, worded, AreFewPhases, cell_at}
use Rattle.asg_objectives.proofs.KeptPresence.{IsPerfect-kept, IsBestBy-kept}
use Rattle.asg_objectives.proofs.LedSquares.{IsPerfect-present, IsFoldOutcome-best, GivesFewPhases-best, AreFewPhases-words}
use Rattle.asg_objectives.proofs.guessed_squares.found_outcome.Goals as goal

pub best-requires-clause-perfect : goal.best-requires-clause-perfect
best-requires-clause-perfect g c =
    let M = g.M.Ordered.monoid_of c.args.m.now in
    let a = c.requires.1 in
    let after = a.after in
    let memory = c.args.workplace in
    IsPerfect-kept after.now c.args.solved.square a.presence memory.matching
    (IsPerfect-present M after.index (cell_at after.now) after.now.side memory.matching
    (subst (EndsIn M after memory.matching memory.bench.rows) c.in-Perfect.is a.from.ends))

pub best-requires-clause-live : goal.best-requires-clause-live
best-requires-clause-live g c =
    subst (λ o. IfSome (last_of o) (IsLive c.args.workplace.region)) c.in-Perfect.is c.requires.1.from.solved.live

pub best-requires-clause-values : goal.best-requires-clause-values
best-requires-clause-values g c =
    let m = c.args.m.now in
    let M = g.M.Ordered.monoid_of m in
    let s = c.requires.1.from in
    let solved = s.solved in
    subst (λ o. AreOfValues M (phases_to c.args.workplace.region (last_of o))) c.in-Perfect.is
    (subst (AreOfValues M) (sym solved.list) (admitted_values M (g.M.DMonoid.difference m) s.before.now.side solved.phases (cell_at s.before.now) solved.lead.admitted))

pub returns-in_ok-found-in-Perfect-clause-outcome : goal.returns-in_ok-found-in-Perfect-clause-outcome
returns-in_ok-found-in-Perfect-clause-outcome g c Q a = λ enter square live.
    let m = c.args.m.now in
    let M = g.M.Ordered.monoid_of m in
    let d = g.M.DMonoid.difference m in
    let w = worded (g.M.Written.word_of m) in
    let s = a.from in
    let after = a.after in
    let memory = c.args.workplace in
    let outcome = c.in_ok-found-in-Perfect.found in
    let solved = s.solved in
    let phases = solved.phases in
    let ends = subst (EndsIn M after memory.matching memory.bench.rows) c.in-Perfect.is s.ends in
    let list : phases_to memory.region c.in-Perfect.last ≡ phases = ap (λ o. phases_to memory.region (last_of o)) (sym c.in-Perfect.is) ∙ solved.list in
    IsFoldOutcome-best M (g.met.M.Ordered.laws m) d c.args.inst.now c.rows-rows.ensures.instance Q s.before after s.start s.at_unit phases _ _ _ _ solved.lead
    (record { folds = c.square_law.ensures.folds; presence = c.square_law.ensures.presence; choice = c.grid_law.ensures.choice })
    enter square live c.fold_law.ensures memory.matching ends (g.M.Written.word_of m) outcome
    (subst (λ ps. IsBestBy after.now memory.matching (map w ps) outcome) list
    (IsBestBy-kept after.now c.args.solved.square a.presence memory.matching (map w (phases_to memory.region c.in-Perfect.last)) outcome c.in_ok-found-in-Perfect.ensures))

pub returns-in_ok-found-in-Perfect-clause-phases : goal.returns-in_ok-found-in-Perfect-clause-phases
returns-in_ok-found-in-Perfect-clause-phases g c Q a =
    let m = c.args.m.now in
    let w = worded (g.M.Written.word_of m) in
    let s = a.from in
    let memory = c.args.workplace in
    let solved = s.solved in
    let phases = solved.phases in
    let words = map w (phases_to memory.region c.in-Perfect.last) in
    let list : phases_to memory.region c.in-Perfect.last ≡ phases = ap (λ o. phases_to memory.region (last_of o)) (sym c.in-Perfect.is) ∙ solved.list in
    let few : AreFewPhases Q.side words =
    subst (λ q. AreFewPhases q.side words) s.start
    (subst (λ ps. AreFewPhases s.before.now.side (map w ps)) (sym list)
    (AreFewPhases-words (g.M.Ordered.monoid_of m) (g.M.DMonoid.difference m) (g.M.Written.word_of m) s.before a.after phases _ _ _ _ solved.lead s.matching solved.few s.over)) in
    GivesFewPhases-best c.args.solved.square memory.matching words Q.side c.in_ok-found-in-Perfect.found few c.in_ok-found-in-Perfect.ensures
