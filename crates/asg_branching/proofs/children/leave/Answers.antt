use Rattle.asg_branching.proofs.Common.{◌≡◌, ◌-◌, ◌≤◌, length, sym, refl, ap, ◌∙◌, subst, arith, IsGrowing, IsBehind, placed, entry_at, rules_of, slot_at}
use Rattle.asg_branching.proofs.GrowCases.{node_from, node_there}
use Rattle.asg_branching.proofs.GrowStarts.{last_used, node_fits, few_left}
use Rattle.asg_branching.proofs.LeftChildren.{left_next, open_next, parent_next}
use Rattle.asg_branching.proofs.ReadySearches.{ready_when_made}
use Rattle.asg_branching.proofs.children.leave.Goals as goal

pub overflow_sub-search : goal.overflow_sub-search
overflow_sub-search g c = let some = c.requires.growing.2.some in omega (arith, some)

pub node-node-requires : goal.node-node-requires
node-node-requires g c = last_used _ _ _ _ _ c.requires.growing.2

pub entry-parent-requires-clause-from : goal.entry-parent-requires-clause-from
entry-parent-requires-clause-from g c =
    let M = g.M.Ordered.monoid_of c.args.m.now in
    subst (λ n. 1 ≤ n) (sym (c.node-node.ensures M.unit)) (node_from _ _ _ _ _ c.requires.growing.2)

pub entry-parent-requires-clause-upto : goal.entry-parent-requires-clause-upto
entry-parent-requires-clause-upto g c =
    let M = g.M.Ordered.monoid_of c.args.m.now in
    let there = node_there _ _ _ _ _ c.requires.growing.2 in
    let n = c.node-node.ensures M.unit in
    let count = ap length c.deref.ensures.value in
    omega (arith, there, n, count)

pub overflow_add-branch-end : goal.overflow_add-branch-end
overflow_add-branch-end g c =
    let few = few_left _ _ _ _ _ c.requires.growing.2 in
    let p = c.placed-branch-end.ensures in
    omega (arith, few, p)

pub branches-init : goal.branches-init
branches-init g c =
    record {
      from = omega arith;
      upto = omega arith;
      given = refl;
      number = refl;
      slots = refl;
      parent = λ unit. refl;
      growing = λ enter count growing. growing;
      all_open = λ i from upto. absurd (omega (arith, from, upto));
    }

pub push_child-requires : goal.push_child-requires
push_child-requires g c =
    let e = c.requires.growing in
    let i = c.branches.invariant in
    let test = c.branches-test.true in
    let p = c.placed-branch-end.ensures in
    let f = i.from in
    node_fits _ _ _ _ _ (i.growing e.0 e.1 e.2) (omega (arith, f, test, p))

pub branches-preserved : goal.branches-preserved
branches-preserved g c =
    let m = c.args.m.now in
    let M = g.M.Ordered.monoid_of m in
    let X = c.args.inst.now in
    let e = c.requires.growing in
    let R = rules_of M (g.M.DMonoid.difference m) e.0 in
    let i = c.branches.invariant in
    let T = c.branches.search in
    let here = i.growing e.0 e.1 e.2 in
    let test = c.branches-test.true in
    let end : c.branches.branch ≤ placed X = (let p = c.placed-branch-end.ensures in omega (arith, test, p)) in
    let laws = g.met.M.Ordered.laws m in
    let S = c.args.search.now in
    let n_is = c.node-node.ensures M.unit in
    let node_is = n_is ∙ sym (λ j. (slot_at M.unit (i.slots j).used (i.number j - 1)).node) in
    let push = c.push_child.ensures in
    let parent_is = c.entry-parent.ensures M.unit ∙ ap (λ xs. entry_at M.unit xs c.node-node.result) c.deref.ensures.value in
    let x_is = i.parent M.unit ∙ sym parent_is in
    let behind = subst (λ s. IsBehind M s c.entry-parent.result.index) (sym i.slots)
    (subst (λ y. IsBehind M S.slots y.index) (sym (parent_is ∙ ap (entry_at M.unit S.tree.entries.items) n_is)) c.requires.behind) in
    let tree = c.push_child.new.tree in
    record {
      from = omega arith;
      upto = omega (arith, end);
      given = i.given;
      number = i.number;
      slots = i.slots;
      parent = λ unit. parent_next R laws (c.raised_law.ensures.instances e.0) X e.1 c.branches.branch i.from T here end c.node-node.result c.entry-parent.result node_is x_is behind tree push.entries unit ∙ i.parent unit;
      growing = λ enter count growing.
          left_next (rules_of M (g.M.DMonoid.difference m) enter) laws (c.raised_law.ensures.instances enter) X count c.branches.branch i.from T (i.growing enter count growing) end c.node-node.result c.entry-parent.result node_is x_is behind tree push.entries push.capacity push.region push.halls;
      all_open = open_next R laws (c.raised_law.ensures.instances e.0) X e.1 c.branches.branch i.from T here end c.node-node.result c.entry-parent.result node_is x_is behind tree push.entries i.all_open;
    }

pub returns-clause-ready : goal.returns-clause-ready
returns-clause-ready g c =
    let m = c.args.m.now in
    let M = g.M.Ordered.monoid_of m in
    let X = c.args.inst.now in
    λ enter count growing.
    let R = rules_of M (g.M.DMonoid.difference m) enter in
    let i = c.branches.invariant in
    let T = c.branches.search in
    let p = c.placed-branch-end.ensures in
    let past = c.branches-test.false in
    let upto = i.upto in
    let from = i.from in
    let made : c.branches.branch - 1 ≡ placed X = omega (arith, past, p, upto, from) in
    ready_when_made R X count T (subst (λ n. IsGrowing R X count n T) made (i.growing enter count growing))
    (λ full j low high. i.all_open j low (omega (arith, high, made, from)))

pub returns-clause-given : goal.returns-clause-given
returns-clause-given g c =
    c.branches.invariant.given
