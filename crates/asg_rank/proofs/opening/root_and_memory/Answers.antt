use Rattle.asg_rank.proofs.Common.{arith, IsMemory, IsInstanceRoot, instance_side}
use Rattle.asg_rank.proofs.BothMade.{both_made, first_made}
use Rattle.asg_rank.proofs.opening.root_and_memory.Goals as goal

pub search_memory-memory-requires-clause-small : goal.search_memory-memory-requires-clause-small
search_memory-memory-requires-clause-small g c =
    let side = instance_side c.in_ok-root.ensures in
    let small = c.requires.side in
    omega (arith, side, small)

pub returns-clause-root : goal.returns-clause-root
returns-clause-root g c =
    let kind = c.args.kind.now in
    let m = g.K.Kind.monoid kind in
    first_made (IsInstanceRoot (g.K.M.Ordered.monoid_of m) (g.K.M.DMonoid.difference m) (g.K.Kind.entered kind) c.args.inst.now c.args.records)
    c.in_ok-root.root c.search_memory-memory.result c.both.result c.both.ensures c.in_ok-root.ensures

pub returns-clause-memory : goal.returns-clause-memory
returns-clause-memory g c =
    both_made (λ root memory. IsMemory c.args.inst.now c.args.room root.reduced.now memory)
    c.in_ok-root.root c.search_memory-memory.result c.both.result c.both.ensures c.search_memory-memory.ensures
