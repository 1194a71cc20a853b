use Rattle.asg_trees.proofs.Common.{◌≡◌, ◌+◌, ◌-◌, ◌*◌, ◌≤◌, true, cond, eqb, ◌≢◌, length, KeepsOtherRows, node_at, is_answered, AreSettledBelowEach, AreSettledBut, Falls, IsFair, judged_before, IsAt, tree_by}
use Rattle.asg_trees.proofs.descents.+descent.Given as goal

abbrev pub decreases-judge_below : goal.decreases-judge_below
decreases-judge_below g l = 3 * (length l.tree.now.nodes.now + 1 - l.node) + 1

abbrev pub decreases-judge_branches : goal.decreases-judge_branches
decreases-judge_branches g l = 3 * (length l.tree.now.nodes.now + 1 - l.parent)

abbrev pub decreases-judge_branch : goal.decreases-judge_branch
decreases-judge_branch g l = 3 * (length l.tree.now.nodes.now + 1 - l.child) + 2

-- the nodes below the children so far are settled
abbrev pub invariant-judge_branches-members : goal.invariant-judge_branches-members
invariant-judge_branches-members g l =
    let T = tree_by g.K.M.Ordered.monoid_of g.K.M.DMonoid.difference g.K.M.Written.word_of g.K.Kind.monoid g.K.Kind.entered l.kind l.tree in
    record {
      upto : l.member ≤ length l.tree.nodes.now;
      named : l.member ≢ 0 → (node_at l.tree.nodes.now l.member).parent ≡ l.parent;
      others : KeepsOtherRows l.tree.inst.now l.kept;
      fair : IsFair T l.tally;
      falls : Falls l.fn.so_far l.tally;
      settled : AreSettledBelowEach T l.parent l.heir (judged_before (length l.tree.nodes.now) l.member) l.tally;
    }

abbrev pub decreases-judge_branches-members : goal.decreases-judge_branches-members
decreases-judge_branches-members g l = cond (eqb l.member 0) 0 (length l.tree.nodes.now + 1 - l.member)

-- the square is that of a node, and all that is below the first is settled but what is below that
-- one
abbrev pub invariant-judge_below-down : goal.invariant-judge_below-down
invariant-judge_below-down g l =
    let T = tree_by g.K.M.Ordered.monoid_of g.K.M.DMonoid.difference g.K.M.Written.word_of g.K.Kind.monoid g.K.Kind.entered l.kind l.tree in
    record {
      from : l.node ≤ l.at;
      upto : l.at ≤ length l.tree.nodes.now;
      answered : is_answered (node_at l.tree.nodes.now l.at).mark ≡ true;
      here : IsAt T l.at l.reduced l.kept;
      fair : IsFair T l.tally;
      falls : Falls l.fn.so_far l.tally;
      settled : AreSettledBut T l.node l.at l.tally;
    }

abbrev pub decreases-judge_below-down : goal.decreases-judge_below-down
decreases-judge_below-down g l = length l.tree.nodes.now + 1 - l.at
