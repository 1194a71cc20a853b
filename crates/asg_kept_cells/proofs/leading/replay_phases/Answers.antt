use Rattle.asg_kept_cells.proofs.LeadLemmas.{none_bad}
use Rattle.asg_kept_cells.proofs.leading.replay_phases.Goals as goal

pub returns : goal.returns
returns g c =
    let m = c.args.m.now in
    none_bad (g.M.Ordered.monoid_of m) (g.M.DMonoid.difference m) (g.M.Written.word_of m) c.args.phases.now c.args.reduced.now c.first_bad.new.square c.in_ok-_bad._bad
    c.requires.admitted c.in_ok-_bad.ensures.bad c.in_ok-_bad.ensures.none
