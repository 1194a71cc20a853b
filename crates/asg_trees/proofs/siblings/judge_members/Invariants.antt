use Rattle.asg_trees.proofs.Common.{◌≡◌, ◌+◌, ◌-◌, ◌≤◌, cond, eqb, ◌≢◌, length, IsFront, IsMaskOf, KeepsOtherRows, node_at, Falls, IsTallied, judged_before, tree_by}
use Rattle.asg_trees.proofs.siblings.judge_members.Given as goal

-- the nodes so far that name the parent were judged
abbrev pub invariant-members : goal.invariant-members
invariant-members g l =
    let T = tree_by g.K.M.Ordered.monoid_of g.K.M.DMonoid.difference g.K.M.Written.word_of g.K.Kind.monoid g.K.Kind.entered l.kind l.tree in
    record {
      upto : l.member ≤ length l.tree.nodes.now;
      named : l.member ≢ 0 → (node_at l.tree.nodes.now l.member).parent ≡ l.parent;
      mask : IsMaskOf l.tree.inst.now l.choice l.marked l.kept;
      others : KeepsOtherRows l.tree.inst.now l.kept;
      front : IsFront l.tree.inst.now l.front;
      tallied : IsTallied T l.parent (judged_before (length l.tree.nodes.now) l.member) l.tally;
      falls : Falls l.fn.so_far l.tally;
    }

abbrev pub decreases-members : goal.decreases-members
decreases-members g l = cond (eqb l.member 0) 0 (length l.tree.nodes.now + 1 - l.member)
