use Rattle.asg_nodes.proofs.Common.{◌≡◌, ◌<◌, ◌≤◌, length, sym, ◌∙◌, subst, arith, entry_at, rules_of, IsReducedTo}
use Rattle.asg_nodes.proofs.RebuiltCalls.{parent_less, parent_from, parent_upto, stands_above, side_is}
use Rattle.asg_nodes.proofs.rebuilding.+rebuild.Goals as goal

pub returns-then-node-stands-clause-reduced : goal.returns-then-node-stands-clause-reduced
returns-then-node-stands-clause-reduced g t c enter winner upto part tree base standing =
    let M = g.M.Ordered.monoid_of c.args.m.now in
    let R = rules_of M (g.M.DMonoid.difference c.args.m.now) enter in
    let T = c.args.tree.now in
    let is = c.if-node-stands.true in
    let from = c.requires.from in
    subst (λ n. IsReducedTo R T.region (part n) (entry_at M.unit T.entries.items n).trail (entry_at M.unit T.entries.items n).index c.args.work.now) (sym is)
    (standing.reduced (omega (arith, is, from)))

pub rebuild-requires : goal.rebuild-requires
rebuild-requires g t c κs within =
    let M = g.M.Ordered.monoid_of c.args.m.now in
    let D = g.M.DMonoid.difference c.args.m.now in
    let X = c.args.inst.now in
    let T = c.args.tree.now in
    let b = c.requires.tree in
    let n = c.args.node in
    let from : 2 ≤ n = omega arith in
    let is = c.parent_of-parent.ensures M.unit in
    let less = parent_less M D b.enter X c.args.choices.now b.winner b.upto T b.part b.tree n from c.requires.upto in
    let low = parent_from M D b.enter X c.args.choices.now b.winner b.upto T b.part b.tree n from c.requires.upto in
    let high = parent_upto M D b.enter X c.args.choices.now b.winner b.upto T b.part b.tree n from c.requires.upto in
    (omega (arith, is, less), (within.0, (within.1, (c.requires.place, (omega (arith, is, low), (omega (arith, is, high), (b, (c.requires.sides, c.requires.room))))))))

pub step_down-requires-clause-tree : goal.step_down-requires-clause-tree
step_down-requires-clause-tree g t c =
    let M = g.M.Ordered.monoid_of c.args.m.now in
    let b = c.requires.tree in
    record {
      enter = b.enter;
      winner = b.winner;
      upto = b.upto;
      part = b.part;
      tree = b.tree;
      over = b.over;
      standing = stands_above M (g.M.DMonoid.difference c.args.m.now) b.enter c.args.inst.now c.args.choices.now b.winner b.upto c.args.tree.now b.part b.tree c.args.node (omega arith) c.requires.upto c.parent_of-parent.result (c.parent_of-parent.ensures M.unit)
          c.rebuild.new.work (c.rebuild.ensures.reduced b.enter b.winner b.upto b.part b.tree b.base_is b.standing);
    }

pub step_down-requires-clause-side : goal.step_down-requires-clause-side
unfolding step_down-requires-clause-tree
step_down-requires-clause-side g t c =
    let b = c.requires.tree in
    c.requires.sides.1
    ∙ sym (side_is (g.M.Ordered.monoid_of c.args.m.now) (g.M.DMonoid.difference c.args.m.now) b.enter c.args.inst.now c.args.choices.now b.winner b.upto c.args.tree.now b.part b.tree c.args.node (omega arith) c.requires.upto
    c.rebuild.new.work (step_down-requires-clause-tree g t c).standing c.args.base.now b.base_is)

pub step_down-requires-clause-room : goal.step_down-requires-clause-room
step_down-requires-clause-room g t c =
    let side : c.rebuild.new.work.now.side ≡ c.args.base.now.now.side = sym (step_down-requires-clause-side g t c) ∙ c.requires.sides.1 in
    let fits : c.args.base.now.now.side < length c.args.room.now = c.requires.room in
    omega (arith, side, fits, c.rebuild.ensures.room)

pub returns-clause-reduced : goal.returns-clause-reduced
returns-clause-reduced g t c enter winner upto part tree base standing =
    let M = g.M.Ordered.monoid_of c.args.m.now in
    c.step_down.ensures.reduced enter winner upto part tree
    (stands_above M (g.M.DMonoid.difference c.args.m.now) enter c.args.inst.now c.args.choices.now winner upto c.args.tree.now part tree c.args.node (omega arith) c.requires.upto c.parent_of-parent.result (c.parent_of-parent.ensures M.unit)
    c.rebuild.new.work (c.rebuild.ensures.reduced enter winner upto part tree base standing))
