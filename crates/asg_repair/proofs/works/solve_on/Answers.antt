use Rattle.asg_repair.proofs.Common.{false, refl, ◌∙◌, arith, last_of, PhaseChain, Work}
use Rattle.asg_repair.proofs.SolvedLemmas.{IsSized-solved, AreAbsorbed-solved, side-solved, IsPhaseChain-solved, phases-solved, IsLed-solved}
use Rattle.asg_repair.proofs.UnmatchedLemmas.{unmatched-le}
use Rattle.asg_repair.proofs.works.solve_on.Given.{Over}
use Rattle.asg_repair.proofs.works.solve_on.Goals as goal

pub solve_with-ended-requires-clause-spare : goal.solve_with-ended-requires-clause-spare
solve_with-ended-requires-clause-spare g c =
    omega (arith, unmatched-le c.args.work.now.matching, c.requires.sized.matching_side, c.requires.spare)

-- what it solved in, and the phases, afterwards
abbrev work_after : (g : Over) → goal.After-phases-2-1 g → Work g.row.K-M-Value.Denot
work_after g c = record {
  reduced = c.solve_with-ended.new.reduced;
  matching = c.solve_with-ended.new.matching;
  bench = c.solve_with-ended.new.bench;
  columns = c.args.work.now.columns;
  room = c.args.work.now.room;
}

abbrev chain_after : (g : Over) → goal.After-phases-2-1 g → PhaseChain g.row.K-M-Value.Denot
chain_after g c = record {
  region = c.solve_with-ended.new.region;
  last = c.last_trail-phases.result;
  way = c.args.phases.now.way;
  is_told = false;
}

pub returns-clause-more : goal.returns-clause-more
returns-clause-more g c =
    let m = g.K.Kind.monoid c.args.kind.now in
    let solved = c.solve_with-ended.ensures.solved in (
      solved.phases,
      phases-solved (g.K.M.Ordered.monoid_of m) (g.K.M.DMonoid.difference m) c.args.inst.now c.args.work.now (work_after g c) c.args.phases.now (chain_after g c) (last_of c.solve_with-ended.result) solved c.last_trail-phases.ensures,
      solved.few,
    )

pub returns-clause-sized : goal.returns-clause-sized
returns-clause-sized g c =
    let m = g.K.Kind.monoid c.args.kind.now in
    IsSized-solved (g.K.M.Ordered.monoid_of m) (g.K.M.DMonoid.difference m) c.args.inst.now c.args.work.now (work_after g c) c.args.phases.now (chain_after g c) (last_of c.solve_with-ended.result) c.solve_with-ended.ensures.solved
    c.requires.sized c.solve_with-ended.ensures.bench_side c.requires.sized.columns_side c.requires.sized.steps_room

pub returns-clause-chain : goal.returns-clause-chain
returns-clause-chain g c =
    let m = g.K.Kind.monoid c.args.kind.now in
    IsPhaseChain-solved (g.K.M.Ordered.monoid_of m) (g.K.M.DMonoid.difference m) c.args.inst.now c.args.work.now (work_after g c) c.args.phases.now (chain_after g c) (last_of c.solve_with-ended.result) c.solve_with-ended.ensures.solved
    c.last_trail-phases.ensures c.spare-spare.ensures.forest c.requires.chain refl

pub returns-clause-region_side : goal.returns-clause-region_side
returns-clause-region_side g c =
    let m = g.K.Kind.monoid c.args.kind.now in
    side-solved (g.K.M.Ordered.monoid_of m) (g.K.M.DMonoid.difference m) c.args.inst.now c.args.work.now (work_after g c) c.args.phases.now (chain_after g c) (last_of c.solve_with-ended.result) c.solve_with-ended.ensures.solved
    ∙ c.requires.region_side

pub returns-clause-led : goal.returns-clause-led
returns-clause-led g c =
    let m = g.K.Kind.monoid c.args.kind.now in
    IsLed-solved (g.K.M.Ordered.monoid_of m) (g.K.M.DMonoid.difference m) c.args.inst.now c.args.work.now (work_after g c) c.args.phases.now (chain_after g c) (last_of c.solve_with-ended.result) c.solve_with-ended.ensures.solved
    c.last_trail-phases.ensures (g.K.Kind.entered c.args.kind.now) (g.met.K.M.Ordered.laws m) c.requires.led

pub returns-clause-absorbed : goal.returns-clause-absorbed
returns-clause-absorbed g c =
    let m = g.K.Kind.monoid c.args.kind.now in
    AreAbsorbed-solved (g.K.M.Ordered.monoid_of m) (g.K.M.DMonoid.difference m) c.args.inst.now c.args.work.now (work_after g c) c.args.phases.now (chain_after g c) (last_of c.solve_with-ended.result) c.solve_with-ended.ensures.solved
    c.requires.absorbed
