use Rattle.asg_branching.proofs.searches.follow.Goals as goal

pub are_all_behind-requires : goal.are_all_behind-requires
are_all_behind-requires g c =
    let e = c.requires.growing in
    record { growing = (e.0, c.args.inst.now, e.1, e.2) }
