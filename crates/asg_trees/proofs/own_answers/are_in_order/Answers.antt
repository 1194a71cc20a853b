use Rattle.asg_trees.proofs.Common.{◌≡◌, ◌+◌, ◌-◌, ◌≤◌, ◌&&◌, eqb, ◌≢◌, length, take, count_by, sym, ap, ◌∙◌, subst, arith, leb-true, node_at, IsNextWith, parent_keys, judged_before}
use Rattle.asg_trees.proofs.BranchLemmas.{one_upto, one_upto-in, one_upto-next, one_upto-past}
use Rattle.asg_trees.proofs.SiblingLemmas.{before_some, count_first, count_last, count_next, member_falls, next_named, next_of_member, next_within}
use Rattle.asg_trees.proofs.own_answers.are_in_order.Goals as goal

pub members-init : goal.members-init
members-init c =
    let nodes = c.args.nodes.now in
    let next = c.first_of-member.result in
    let is = subst (IsNextWith (parent_keys nodes) c.args.n 0) (sym c.first_of-member.ensures) (c.requires.members.firsts c.args.n c.requires.upto) in
    record {
      upto = next_within nodes c.args.n 0 next is;
      named = λ some. next_named nodes c.args.n c.args.members.now c.requires.members 0 next is some;
      few = omega arith;
      counted = λ i from. one_upto-past 0 i (omega (arith, from)) ∙ count_first nodes c.args.n i next is;
    }

pub members-smaller : goal.members-smaller
members-smaller c =
    let nodes = c.args.nodes.now in
    let some : c.members.member ≢ 0 = c.members-test.true in
    let is = next_of_member nodes c.args.n c.args.members.now c.requires.members c.members.member c.next_of-member.result (omega (arith, some)) c.members.invariant.upto c.requires.upto (c.members.invariant.named some) c.next_of-member.ensures in
    member_falls nodes c.args.n c.args.members.now c.requires.members c.members.member c.next_of-member.result some c.members.invariant.upto is

pub members-preserved : goal.members-preserved
members-preserved c =
    let nodes = c.args.nodes.now in
    let inv = c.members.invariant in
    let member = c.members.member in
    let count = c.members.count in
    let next = c.next_of-member.result in
    let some : member ≢ 0 = c.members-test.true in
    let from : 1 ≤ member = omega (arith, some) in
    let on = inv.named some in
    let is = next_of_member nodes c.args.n c.args.members.now c.requires.members member next from inv.upto c.requires.upto on c.next_of-member.ensures in
    let branch : (node_at nodes member).branch ≡ count + 1 = sym c.branch_of.ensures ∙ c.if-branch_of-count.false in
    let high = before_some (length nodes) member some in
    record {
      upto = next_within nodes c.args.n member next is;
      named = λ more. next_named nodes c.args.n c.args.members.now c.requires.members member next is more;
      few = omega (arith, c.if-count-branches.false);
      counted = λ i one.
          sym (one_upto-next count (node_at nodes member).branch i branch)
          ∙ count_next nodes c.args.n i member next (one_upto count i) from inv.upto on is
          (inv.counted i one ∙ ap (λ k. count_by (λ node. eqb node.parent c.args.n && eqb node.branch i) (take (k - 1) nodes)) high);
    }

pub returns : goal.returns
returns c ok i from upto =
    let nodes = c.args.nodes.now in
    let inv = c.members.invariant in
    let zero : c.members.member ≡ 0 = omega (arith, c.members-test.false) in
    let all : c.args.branches ≤ c.members.count = leb-true c.args.branches c.members.count ok in
    sym
    (sym (one_upto-in c.members.count i (omega (arith, upto, all)))
    ∙ count_last nodes c.args.n i (one_upto c.members.count i)
    (inv.counted i from ∙ ap (λ m. count_by (λ node. eqb node.parent c.args.n && eqb node.branch i) (take (judged_before (length nodes) m - 1) nodes)) zero))
