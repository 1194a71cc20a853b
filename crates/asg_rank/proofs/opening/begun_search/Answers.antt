use Rattle.asg_rank.proofs.Common.{sym, ◌∙◌, subst, IsInstanceRoot, instance_side}
use Rattle.asg_rank.proofs.RootSteps.{root_is}
use Rattle.asg_rank.proofs.opening.begun_search.Goals as goal

pub blank_search-requires : goal.blank_search-requires
blank_search-requires g c =
    let is = c.in_ok-made.ensures.root in
    is.solved.bench_side ∙ is.of_instance.labels.side ∙ sym (instance_side is)

pub returns-clause-root : goal.returns-clause-root
returns-clause-root g c =
    let kind = c.args.kind.now in
    let m = g.K.Kind.monoid kind in
    let begun = c.blank_search.result in
    let blank = c.blank_search.ensures in
    subst (IsInstanceRoot (g.K.M.Ordered.monoid_of m) (g.K.M.DMonoid.difference m) (g.K.Kind.entered kind) c.args.inst.now c.args.records)
    (root_is c.in_ok-made.made.0 begun.0 begun.1 begun.2 blank.base blank.ended blank.matching blank.bench blank.region) c.in_ok-made.ensures.root

pub returns-clause-blank : goal.returns-clause-blank
returns-clause-blank g c = c.blank_search.ensures.blank c.args.inst.now c.args.room c.in_ok-made.ensures.memory

pub returns-clause-memory : goal.returns-clause-memory
returns-clause-memory g c =
    let is = c.in_ok-made.ensures.root in
    c.blank_search.ensures.memory c.args.inst.now c.args.room c.in_ok-made.ensures.memory (instance_side is) (is.solved.region_side ∙ is.of_instance.labels.side)
