use Rattle.asg_repair.proofs.Common.{List, length, ap, arith, PhaseOf}
use Rattle.asg_repair.proofs.UnmatchedLemmas.{unmatched-le}
use Rattle.asg_repair.proofs.LeadsOnLemmas.{IsReady-prepared, LeadsOn-after, LeadsOn-none}
use Rattle.asg_repair.proofs.guessed_ends.take_with_room.Goals as goal

pub overflow_cast-count : goal.overflow_cast-count
overflow_cast-count g c =
    let size = ap (λ (s : List (PhaseOf g.row.K-M-Value.Denot)). length s) c.phases.ensures in
    omega (arith, size, c.requires.few, unmatched-le c.args.work.now.matching, c.requires.ready.sized.matching_side, c.requires.may_solve.small)

pub take_end-requires-clause-ready : goal.take_end-requires-clause-ready
take_end-requires-clause-ready g c =
    let m = g.K.Kind.monoid c.args.kind.now in
    let told = c.prepare.ensures in
    IsReady-prepared (g.K.M.Ordered.monoid_of m) (g.K.M.DMonoid.difference m) (g.K.Kind.entered c.args.kind.now) c.args.inst.now c.args.work.now c.args.phases.now c.prepare.new.self c.requires.ready told.chain told.phases told.side told.more

pub returns-in-Ok : goal.returns-in-Ok
returns-in-Ok g c =
    let m = g.K.Kind.monoid c.args.kind.now in
    LeadsOn-after (g.K.M.Ordered.monoid_of m) (g.K.M.DMonoid.difference m) (g.K.Kind.entered c.args.kind.now) c.args.inst.now c.args.work.now c.take_end.new.work c.args.phases.now c.prepare.new.self c.take_end.new.phases c.prepare.ensures.phases c.take_end.ensures

pub returns-in-Err : goal.returns-in-Err
returns-in-Err g c =
    let m = g.K.Kind.monoid c.args.kind.now in
    let M = g.K.M.Ordered.monoid_of m in
    let d = g.K.M.DMonoid.difference m in
    let enter = g.K.Kind.entered c.args.kind.now in
    let X = c.args.inst.now in
    let work = c.args.work.now in
    let told = c.prepare.ensures in
    let ready = IsReady-prepared M d enter X work c.args.phases.now c.prepare.new.self c.requires.ready told.chain told.phases told.side told.more in
    LeadsOn-after M d enter X work work c.args.phases.now c.prepare.new.self c.prepare.new.self told.phases (LeadsOn-none M d enter X work c.prepare.new.self ready)
