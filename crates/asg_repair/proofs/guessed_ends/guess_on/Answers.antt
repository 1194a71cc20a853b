use Rattle.asg_repair.proofs.Common.{arith}
use Rattle.asg_repair.proofs.LeadsOnLemmas.{LeadsOn-none}
use Rattle.asg_repair.proofs.UnmatchedLemmas.{unmatched-le}
use Rattle.asg_repair.proofs.guessed_ends.guess_on.Goals as goal

pub end_with-requires-clause-reduced : goal.end_with-requires-clause-reduced
end_with-requires-clause-reduced g c = c.requires.ready.led.is_reduced

pub end_with-requires-clause-most : goal.end_with-requires-clause-most
end_with-requires-clause-most g c =
    omega (arith, c.free_rows-most.ensures, unmatched-le c.args.work.now.matching, c.requires.ready.absorbed.side)

pub take_with_room-requires-clause-few : goal.take_with_room-requires-clause-few
take_with_room-requires-clause-few g c = omega (arith, c.in-Some.ensures.few, c.free_rows-most.ensures)

pub returns-then-most-lt2 : goal.returns-then-most-lt2
returns-then-most-lt2 g c =
    let m = g.K.Kind.monoid c.args.kind.now in
    LeadsOn-none (g.K.M.Ordered.monoid_of m) (g.K.M.DMonoid.difference m) (g.K.Kind.entered c.args.kind.now) c.args.inst.now c.args.work.now c.args.phases.now c.requires.ready

pub returns-in-None : goal.returns-in-None
returns-in-None g c =
    let m = g.K.Kind.monoid c.args.kind.now in
    LeadsOn-none (g.K.M.Ordered.monoid_of m) (g.K.M.DMonoid.difference m) (g.K.Kind.entered c.args.kind.now) c.args.inst.now c.args.work.now c.args.phases.now c.requires.ready
