use Rattle.asg_algebra.proofs.Common.{All, sym, subst, cell_at}
use Rattle.asg_proof.specs.PromisedProofs.{IsPhaseOver}
use Rattle.asg_algebra.proofs.ContinuedLaws.{HasSolved-taken, over_side}
use Rattle.asg_algebra.proofs.SolvedLaws.{ArePushed-spare}
use Rattle.asg_algebra.proofs.continued.take_over.Goals as goal

pub push_phases-last-requires-clause-over : goal.push_phases-last-requires-clause-over
push_phases-last-requires-clause-over g c =
    let m = c.args.m.now in
    let lead = c.requires.taken.lead in
    subst (λ n. All (IsPhaseOver n) c.args.given.now) (sym c.requires.region_side)
    (over_side (g.M.Ordered.monoid_of m) (g.M.DMonoid.difference m) c.args.reduced.now.now.side c.args.given.now (cell_at c.args.reduced.now.now) lead.admitted lead.sizes)

pub returns-clause-solved : goal.returns-clause-solved
returns-clause-solved g c =
    let m = c.args.m.now in
    HasSolved-taken (g.M.Ordered.monoid_of m) (g.M.DMonoid.difference m) c.args.given.now c.args.reduced.now c.args.taken c.args.matching.now c.args.region.now c.push_phases-last.new.region c.args.trail c.push_phases-last.result
    c.requires.taken c.requires.matching_side c.requires.few c.requires.live c.push_phases-last.ensures

pub returns-clause-perfect : goal.returns-clause-perfect
returns-clause-perfect g c = c.requires.taken.perfect

pub returns-clause-spare : goal.returns-clause-spare
returns-clause-spare g c =
    ArePushed-spare c.args.given.now c.args.region.now c.push_phases-last.new.region c.args.trail c.push_phases-last.result c.push_phases-last.ensures
