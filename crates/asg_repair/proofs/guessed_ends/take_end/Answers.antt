use Rattle.asg_repair.proofs.Common.{false, refl, ◌∙◌, sym, arith, length, PhaseChain, Work}
use Rattle.asg_repair.proofs.LeadsOnLemmas.{LeadsOn-solved}
use Rattle.asg_repair.proofs.guessed_ends.take_end.Goals as goal

pub taken_over-last-requires-clause-matching_side : goal.taken_over-last-requires-clause-matching_side
taken_over-last-requires-clause-matching_side g c = c.requires.ready.absorbed.side

pub taken_over-last-requires-clause-spare : goal.taken_over-last-requires-clause-spare
taken_over-last-requires-clause-spare g c = omega (arith, c.requires.spare)

pub taken_over-last-requires-clause-region_side : goal.taken_over-last-requires-clause-region_side
taken_over-last-requires-clause-region_side g c = c.requires.ready.region_side ∙ sym c.requires.ready.led.labels.side

pub taken_over-last-requires-clause-live : goal.taken_over-last-requires-clause-live
taken_over-last-requires-clause-live g c = c.requires.ready.chain.chain.live

pub returns : goal.returns
returns g c =
    let m = g.K.Kind.monoid c.args.kind.now in
    let work = c.args.work.now in
    let chain = c.args.phases.now in
    let over = c.taken_over-last in
    let ready = c.requires.ready in
    let after : Work g.row.K-M-Value.Denot = record {
      reduced = over.new.reduced;
      matching = over.new.matching;
      bench = work.bench;
      columns = work.columns;
      room = work.room;
    } in
    let new : PhaseChain g.row.K-M-Value.Denot = record {
      region = over.new.region;
      last = over.result;
      way = chain.way;
      is_told = false;
    } in
    LeadsOn-solved (g.K.M.Ordered.monoid_of m) (g.K.M.DMonoid.difference m) (g.K.Kind.entered c.args.kind.now) c.args.inst.now (g.met.K.M.Ordered.laws m) work after chain new over.result
    over.ensures.solved refl (length c.args.end.hint.phases) ready c.spare-spare.ensures.forest refl refl ready.sized.columns_side ready.sized.steps_room
    over.ensures.perfect over.ensures.spare c.requires.spare
