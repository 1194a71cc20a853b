use Rattle.asg_repair.proofs.Common.{is_some, sym, ◌∙◌, subst, and_parts, IsLedBut}
use Rattle.asg_repair.proofs.applied_edits.follow_edit.Goals as goal

pub follow-requires-clause-led : goal.follow-requires-clause-led
follow-requires-clause-led g c = λ h q at.
    let m = g.K.Kind.monoid c.args.kind.now in
    subst
    (λ list. IsLedBut (g.K.M.Ordered.monoid_of m) (g.K.M.DMonoid.difference m) (g.K.Kind.entered c.args.kind.now) c.args.inst.now list c.args.places.row q c.args.work.now.reduced)
    (sym c.cut.ensures.phases)
    (c.requires.led h q at)

pub returns-clause-sized : goal.returns-clause-sized
returns-clause-sized g c =
    let sized = c.requires.sized in
    record {
      square = c.follow.ensures.columns;
      matching_side = c.clear_named.ensures.side ∙ sized.matching_side;
      is_matching = c.clear_named.ensures.matching;
      bench_side = sized.bench_side;
      columns_side = sized.columns_side;
      steps_room = sized.steps_room;
    }

pub returns-clause-only : goal.returns-clause-only
returns-clause-only g c h = (and_parts c.args.stays (is_some c.args.places.column) (sym c.follow.ensures.told ∙ h)).0

pub returns-clause-cleared : goal.returns-clause-cleared
returns-clause-cleared g c = record {
  only = c.clear_named.ensures.only;
  kept = c.clear_named.ensures.kept;
  cleared = c.clear_named.ensures.cleared;
}

pub returns-clause-cut : goal.returns-clause-cut
returns-clause-cut g c = record {
  chain = c.cut.ensures.chain;
  told = c.cut.ensures.told;
  phases = c.cut.ensures.phases;
  side = c.cut.ensures.side;
  spare = c.cut.ensures.spare;
}
