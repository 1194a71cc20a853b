use Rattle.asg_repair.proofs.Common.{ℕ, List, Option, sym, subst, EndsIn, IsBestBy, IsGiven, ids_in, cell_at}
use Rattle.asg_repair.specs.declared.answers.Given.{Given}
use Rattle.asg_repair.proofs.AnswerLemmas.{BestLaw, HallLaw, best_written, present_perfect}
use Rattle.asg_repair.proofs.answers.give.Goals as goal

pub give_choice-requires-clause-perfect : goal.give_choice-requires-clause-perfect
give_choice-requires-clause-perfect g c =
    let M = g.K.M.Ordered.monoid_of (g.K.Kind.monoid c.args.kind.now) in
    let work = c.args.work.now in
    present_perfect M work.reduced.index (cell_at work.reduced.now) work.reduced.now.side work.matching
    (subst (EndsIn M work.reduced work.matching work.bench.rows) c.in-Perfect.is c.requires.ends)

pub returns-in-Perfect-clause-given : goal.returns-in-Perfect-clause-given
returns-in-Perfect-clause-given g c phases led =
    let kind = c.args.kind.now in
    let m = g.K.Kind.monoid kind in
    let M = g.K.M.Ordered.monoid_of m in
    let d = g.K.M.DMonoid.difference m in
    let e = g.K.Kind.entered kind in
    let X = c.args.inst.now in
    let work = c.args.work.now in
    let room = c.give_choice.new.room in
    let law = subst (λ n. BestLaw (g.K.M.Ordered.monoid_of n) (g.K.M.DMonoid.difference n)) c.monoid.ensures c.led_law.ensures.best in
    subst (λ (given : Given). IsGiven M d e X phases c.give_choice.new.work.matching given room.choice (ids_in room)) (sym c.give_choice.ensures.given)
    (subst (λ (matching : List (Option ℕ)). IsBestBy M d e X phases matching room.choice) (sym c.give_choice.ensures.matching)
    (best_written M d e X work.reduced work.matching room.choice law
    c.requires.may_solve.instance c.requires.may_solve.live
    (subst (EndsIn M work.reduced work.matching work.bench.rows) c.in-Perfect.is c.requires.ends)
    c.give_choice.ensures.written phases led))

pub returns-in-Short-clause-given : goal.returns-in-Short-clause-given
returns-in-Short-clause-given g c phases led =
    let kind = c.args.kind.now in
    let m = g.K.Kind.monoid kind in
    let M = g.K.M.Ordered.monoid_of m in
    let d = g.K.M.DMonoid.difference m in
    let e = g.K.Kind.entered kind in
    let X = c.args.inst.now in
    let work = c.args.work.now in
    let room = c.give_hall.new.room in
    let law = subst (λ n. HallLaw (g.K.M.Ordered.monoid_of n) (g.K.M.DMonoid.difference n)) c.monoid.ensures c.led_law.ensures.nothing in
    subst (λ (given : Given). IsGiven M d e X phases work.matching given room.choice (ids_in room)) (sym c.give_hall.ensures.given)
    (law e X phases work.reduced (ids_in room) led c.give_hall.ensures.hall)
