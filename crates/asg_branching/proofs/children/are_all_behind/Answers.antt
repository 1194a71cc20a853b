use Rattle.asg_branching.proofs.Common.{◌≤◌, length, sym, ap, ◌∙◌, subst, arith, IsBehind, entry_at, rules_of, IsValue}
use Rattle.asg_branching.proofs.GrowCases.{node_from, node_there, node_leads}
use Rattle.asg_branching.proofs.GrowOutcomes.{led_value}
use Rattle.asg_branching.proofs.GrowStarts.{last_used}
use Rattle.asg_branching.proofs.LeftChildren.{behind_last}
use Rattle.asg_branching.proofs.children.are_all_behind.Goals as goal

pub node-node-requires : goal.node-node-requires
node-node-requires g c = last_used _ _ _ _ _ c.requires.growing.3

pub entry-parent-requires-clause-from : goal.entry-parent-requires-clause-from
entry-parent-requires-clause-from g c =
    let M = g.M.Ordered.monoid_of c.args.m.now in
    subst (λ n. 1 ≤ n) (sym (c.node-node.ensures M.unit)) (node_from _ _ _ _ _ c.requires.growing.3)

pub entry-parent-requires-clause-upto : goal.entry-parent-requires-clause-upto
entry-parent-requires-clause-upto g c =
    let M = g.M.Ordered.monoid_of c.args.m.now in
    let there = node_there _ _ _ _ _ c.requires.growing.3 in
    let n = c.node-node.ensures M.unit in
    let count = ap length c.deref.ensures.value in
    omega (arith, there, n, count)

pub is_behind-requires-clause-index : goal.is_behind-requires-clause-index
is_behind-requires-clause-index g c =
    let m = c.args.m.now in
    let M = g.M.Ordered.monoid_of m in
    let S = c.args.search.now in
    let e = c.requires.growing in
    let R = rules_of M (g.M.DMonoid.difference m) e.0 in
    let n_is = c.node-node.ensures M.unit in
    let x_is = c.entry-parent.ensures M.unit ∙ ap (λ xs. entry_at M.unit xs c.node-node.result) c.deref.ensures.value ∙ ap (entry_at M.unit S.tree.entries.items) n_is in
    let here = node_leads R e.1 e.2 0 S e.3 in
    subst (λ y. IsValue M y.index) (sym x_is) (led_value R (g.met.M.Ordered.laws m) S.tree.region _ _ _ here)

pub returns-then-given-room-clause-behind : goal.returns-then-given-room-clause-behind
returns-then-given-room-clause-behind g c is =
    let m = c.args.m.now in
    let e = c.requires.growing in
    let R = rules_of (g.M.Ordered.monoid_of m) (g.M.DMonoid.difference m) e.0 in
    behind_last R (g.met.M.Ordered.laws m) e.1 e.2 0 c.args.search.now e.3 (c.if-given-room.true ∙ c.room.ensures.room)

pub returns-clause-behind : goal.returns-clause-behind
returns-clause-behind g c is =
    let m = c.args.m.now in
    let M = g.M.Ordered.monoid_of m in
    let S = c.args.search.now in
    let n_is = c.node-node.ensures M.unit in
    let x_is = c.entry-parent.ensures M.unit ∙ ap (λ xs. entry_at M.unit xs c.node-node.result) c.deref.ensures.value ∙ ap (entry_at M.unit S.tree.entries.items) n_is in
    subst (λ y. IsBehind M S.slots y.index) x_is (c.is_behind.ensures.behind is)
