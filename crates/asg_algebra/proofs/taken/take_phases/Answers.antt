use Rattle.asg_algebra.proofs.Common.{◌≤◌, length, Some, refl, ◌∙◌, subst, arith, length-take, take_all, LeadTo}
use Rattle.asg_algebra.proofs.SolvedLaws.{LeadTo-none}
use Rattle.asg_algebra.proofs.TakenLaws.{IsAdmitted-next, LeadTo-more, lead_spare, lead_live, lead_sides}
use Rattle.asg_algebra.proofs.taken.take_phases.Goals as goal

pub phases-init : goal.phases-init
phases-init g c =
    let m = c.args.m.now in
    record {
      lead = LeadTo-none (g.M.Ordered.monoid_of m) (g.met.M.Ordered.laws m) (g.M.DMonoid.difference m) (g.S.RowSquare.as_reduced c.args.square.now) c.args.region.now c.args.last.now c.requires.reduced;
      room = refl;
    }

pub take_phase-requires-clause-reduced : goal.take_phase-requires-clause-reduced
take_phase-requires-clause-reduced g c = let lead = c.phases.invariant.lead in lead.reduced

pub take_phase-requires-clause-spare : goal.take_phase-requires-clause-spare
take_phase-requires-clause-spare g c =
    omega (arith, lead_spare c.phases.invariant.lead, length-take c.phases.k c.args.given.now, c.requires.spare, c.phases-test.true)

pub take_phase-requires-clause-live : goal.take_phase-requires-clause-live
take_phase-requires-clause-live g c = lead_live c.phases.invariant.lead c.requires.live

pub take_phase-requires-clause-region_side : goal.take_phase-requires-clause-region_side
take_phase-requires-clause-region_side g c = lead_sides c.phases.invariant.lead c.requires.region_side

pub take_phase-requires-clause-room : goal.take_phase-requires-clause-room
take_phase-requires-clause-room g c =
    let lead = c.phases.invariant.lead in
    omega (arith, lead.labels.side, c.phases.invariant.room, c.requires.room)

pub take_phase-requires-clause-known : goal.take_phase-requires-clause-known
take_phase-requires-clause-known g c = λ known.
    IsAdmitted-next (g.M.Ordered.monoid_of c.args.m.now) (g.met.M.Ordered.laws c.args.m.now) (g.M.DMonoid.difference c.args.m.now) c.args.given.now c.phases.k c.index-given-k.result c.steps.result.now c.enters.result.now c.leaves.result.now
    (g.S.RowSquare.as_reduced c.args.square.now) (g.S.RowSquare.as_reduced c.phases.square) c.args.region.now c.phases.region c.args.last.now c.phases.last
    c.phases-test.true c.index-given-k.is c.steps.ensures c.enters.ensures.enters c.leaves.ensures.leaves
    (c.requires.known known) c.phases.invariant.lead

pub phases-preserved : goal.phases-preserved
phases-preserved g c =
    let m = c.args.m.now in
    let new = c.take_phase.new in
    record {
      lead = LeadTo-more (g.M.Ordered.monoid_of m) (g.met.M.Ordered.laws m) (g.M.DMonoid.difference m) c.args.given.now c.phases.k c.index-given-k.result c.steps.result.now c.enters.result.now c.leaves.result.now
          (g.S.RowSquare.as_reduced c.args.square.now) (g.S.RowSquare.as_reduced c.phases.square) (g.S.RowSquare.as_reduced new.square)
          c.args.region.now c.phases.region new.region c.args.last.now c.phases.last (Some c.in-Some.next)
          c.phases-test.true c.index-given-k.is c.steps.ensures c.enters.ensures.enters c.leaves.ensures.leaves
          c.requires.reduced c.phases.invariant.lead c.in-Some.ensures.leads;
      room = c.take_phase.ensures.room ∙ c.phases.invariant.room;
    }

pub returns : goal.returns
returns g c = λ _.
    let m = c.args.m.now in
    let all : length c.args.given.now ≤ c.phases.k = omega (arith, c.phases-test.false) in
    subst (λ phases. LeadTo (g.M.Ordered.monoid_of m) (g.M.DMonoid.difference m) phases (g.S.RowSquare.as_reduced c.args.square.now) (g.S.RowSquare.as_reduced c.phases.square) c.args.region.now c.phases.region c.args.last.now c.phases.last)
    (take_all c.phases.k c.args.given.now all) c.phases.invariant.lead
