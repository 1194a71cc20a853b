use Rattle.asg_branching.proofs.Common.{◌+◌, ◌*◌, ◌≤◌, length, take, sym, refl, ◌∙◌, subst, arith, with_items, winner_in, given_of, placed, entry_at, rules_of, IsReducedTo, IsRebuilt, IsTree}
use Rattle.asg_branching.proofs.GrowCases.{node_from, node_there}
use Rattle.asg_branching.proofs.GrowStarts.{last_used}
use Rattle.asg_branching.proofs.PrepareSteps.{root_base, rebuilt_here, prepared}
use Rattle.asg_branching.proofs.children.prepare.Goals as goal

pub overflow_sub-given : goal.overflow_sub-given
overflow_sub-given g c = let some = c.requires.growing.2.some in omega (arith, some)

pub node-node-requires : goal.node-node-requires
node-node-requires g c = last_used _ _ _ _ _ c.requires.growing.2

pub rebuild-requires-clause-place : goal.rebuild-requires-clause-place
rebuild-requires-clause-place g c = c.requires.growing.2.rankable.place

pub rebuild-requires-clause-from : goal.rebuild-requires-clause-from
rebuild-requires-clause-from g c =
    let M = g.M.Ordered.monoid_of c.args.m.now in
    subst (λ n. 1 ≤ n) (sym (c.node-node.ensures M.unit)) (node_from _ _ _ _ _ c.requires.growing.2)

pub rebuild-requires-clause-upto : goal.rebuild-requires-clause-upto
rebuild-requires-clause-upto g c =
    let M = g.M.Ordered.monoid_of c.args.m.now in
    subst (λ n. n ≤ length c.args.search.now.tree.entries.items) (sym (c.node-node.ensures M.unit)) (node_there _ _ _ _ _ c.requires.growing.2)

pub rebuild-requires-clause-tree : goal.rebuild-requires-clause-tree
rebuild-requires-clause-tree g c =
    let m = c.args.m.now in
    let S = c.args.search.now in
    subst (λ xs. IsRebuilt (g.M.Ordered.monoid_of m) (g.M.DMonoid.difference m) c.args.inst.now S.tree (take S.given xs) S.base S.desk.node S.desk.work) (sym c.deref.ensures.value) (rebuilt_here _ _ _ _ c.requires.growing.2)

pub rebuild-requires-clause-sides : goal.rebuild-requires-clause-sides
rebuild-requires-clause-sides g c =
    let memory = c.requires.growing.2.memory in (memory.desk.work ∙ sym memory.base_side, memory.region_side ∙ sym memory.base_side)

pub rebuild-requires-clause-room : goal.rebuild-requires-clause-room
rebuild-requires-clause-room g c =
    let steps = c.requires.growing.2.memory.desk.steps in let side = c.requires.growing.2.memory.base_side in omega (arith, steps, side)

pub returns-clause-expanding : goal.returns-clause-expanding
returns-clause-expanding g c =
    let m = c.args.m.now in
    let M = g.M.Ordered.monoid_of m in
    let X = c.args.inst.now in
    let S = c.args.search.now in
    λ enter count growing.
    let R = rules_of M (g.M.DMonoid.difference m) enter in
    let n_is = c.node-node.ensures M.unit in
    let tree = subst (λ xs. IsTree R X (take S.given xs) (winner_in M.unit S.slots.used) (1 + length (given_of S) * placed X) S.tree growing.search.part) (sym c.deref.ensures.value) growing.search.tree in
    let to = c.rebuild.ensures.reduced enter (winner_in M.unit S.slots.used) (1 + length (given_of S) * placed X) growing.search.part tree (root_base R X count S growing) growing.standing in
    prepared R X count S growing c.requires.less (record S.desk { work = c.rebuild.new.work; node = c.node-node.result; bits = c.set_all.new.self; room = with_items S.desk.room c.rebuild.new.room }) refl refl n_is c.set_all.ensures.rows c.set_all.ensures.columns c.set_all.ensures.all
    (subst (λ n. IsReducedTo R S.tree.region (growing.search.part n) (entry_at M.unit S.tree.entries.items n).trail (entry_at M.unit S.tree.entries.items n).index c.rebuild.new.work) n_is to)
