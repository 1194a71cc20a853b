use Rattle.asg_trees.proofs.Common.{◌≤◌, length, sym, ap, ◌∙◌, subst, inl, inr, arith, IsMaskOf, node_answer, IsNextWith, parent_keys, Falls, IsTallied, judged_before, StandsAt, tree_by}
use Rattle.asg_trees.proofs.GroupLemmas.{parent_count}
use Rattle.asg_trees.proofs.SiblingLemmas.{before_some, below_root, member_falls, member_judged, members_done, members_first, next_named, next_of_member, next_within}
use Rattle.asg_trees.proofs.TallyLemmas.{falls_both, falls_none, falls_with}
use Rattle.asg_trees.proofs.siblings.judge_members.Goals as goal

pub first_of-member-requires : goal.first_of-member-requires
first_of-member-requires g c = omega (arith, c.requires.ready.members.first_count, c.requires.upto)

pub members-init : goal.members-init
members-init g c =
    let T = tree_by g.K.M.Ordered.monoid_of g.K.M.DMonoid.difference g.K.M.Written.word_of g.K.Kind.monoid g.K.Kind.entered c.args.kind.now c.args.tree.now in
    let nodes = c.args.tree.now.nodes.now in
    let next = c.first_of-member.result in
    let is = subst (IsNextWith (parent_keys nodes) c.args.parent 0) (sym c.first_of-member.ensures) (c.requires.ready.members.firsts c.args.parent c.requires.upto) in
    record {
      upto = next_within nodes c.args.parent 0 next is;
      named = λ some. next_named nodes c.args.parent c.args.tree.now.members.now c.requires.ready.members 0 next is some;
      mask = c.requires.mask;
      others = c.requires.kept;
      front = c.first-front.ensures.front c.args.tree.now.inst.now;
      tallied = members_first T c.args.parent c.args.so_far next is c.requires.fair;
      falls = falls_none c.args.so_far;
    }

pub judge_member-requires-clause-from : goal.judge_member-requires-clause-from
judge_member-requires-clause-from g c =
    let t = c.members.invariant.tallied in
    let some = c.members-test.true in
    below_root c.args.tree.now.nodes.now c.members.member some (t.places c.members.member (omega (arith, some)) c.if-member-tally.true) (c.members.invariant.named some) c.requires.from

pub judge_member-requires-clause-places : goal.judge_member-requires-clause-places
judge_member-requires-clause-places g c = λ n from upto. c.members.invariant.tallied.places n from (omega (arith, upto, c.if-member-tally.true))

pub judge_member-requires-clause-stands : goal.judge_member-requires-clause-stands
judge_member-requires-clause-stands g c =
    let T = tree_by g.K.M.Ordered.monoid_of g.K.M.DMonoid.difference g.K.M.Written.word_of g.K.Kind.monoid g.K.Kind.entered c.args.kind.now c.args.tree.now in
    subst (λ n. StandsAt T n c.args.reduced.now.now c.args.reduced.now.index) (sym (c.members.invariant.named c.members-test.true)) c.requires.stands

pub judge_member-requires-clause-choice : goal.judge_member-requires-clause-choice
judge_member-requires-clause-choice g c =
    c.requires.choice ∙ ap (node_answer c.args.tree.now.answers.now c.args.tree.now.nodes.now) (sym (c.members.invariant.named c.members-test.true))

pub branch_of-marked-requires-clause-from : goal.branch_of-marked-requires-clause-from
branch_of-marked-requires-clause-from g c = omega (arith, c.members-test.true)

pub branch_of-marked-requires-clause-upto : goal.branch_of-marked-requires-clause-upto
branch_of-marked-requires-clause-upto g c = c.members.invariant.upto

pub next_of-member-requires : goal.next_of-member-requires
next_of-member-requires g c =
    omega (arith, c.requires.ready.members.next_count, parent_count c.args.tree.now.nodes.now, c.members.invariant.upto)

pub members-smaller : goal.members-smaller
members-smaller g c =
    let nodes = c.args.tree.now.nodes.now in
    let some = c.members-test.true in
    let is = next_of_member nodes c.args.parent c.args.tree.now.members.now c.requires.ready.members c.members.member c.next_of-member.result (omega (arith, some)) c.members.invariant.upto c.requires.upto (c.members.invariant.named some) c.next_of-member.ensures in
    member_falls nodes c.args.parent c.args.tree.now.members.now c.requires.ready.members c.members.member c.next_of-member.result some c.members.invariant.upto is

pub members-preserved : goal.members-preserved
members-preserved g c =
    let T = tree_by g.K.M.Ordered.monoid_of g.K.M.DMonoid.difference g.K.M.Written.word_of g.K.Kind.monoid g.K.Kind.entered c.args.kind.now c.args.tree.now in
    let nodes = c.args.tree.now.nodes.now in
    let some = c.members-test.true in
    let member = c.members.member in
    let next = c.next_of-member.result in
    let on = c.members.invariant.named some in
    let from : 1 ≤ member = omega (arith, some) in
    let is = next_of_member nodes c.args.parent c.args.tree.now.members.now c.requires.ready.members member next from c.members.invariant.upto c.requires.upto on c.next_of-member.ensures in
    let before = subst (λ b. IsTallied T c.args.parent b c.members.tally) (before_some (length nodes) member some) c.members.invariant.tallied in
    let told = c.in_ok-tally.ensures.tallied in
    record {
      upto = next_within nodes c.args.parent member next is;
      named = λ more. next_named nodes c.args.parent c.args.tree.now.members.now c.requires.ready.members member next is more;
      mask = subst (λ b. IsMaskOf c.args.tree.now.inst.now c.args.choice.now b c.judge_member.new.kept) (sym c.branch_of-marked.ensures) c.judge_member.ensures.mask;
      others = c.judge_member.ensures.kept;
      front = c.judge_member.ensures.front;
      tallied = subst (IsTallied T c.args.parent (judged_before (length nodes) next)) (sym told.same)
          (member_judged T c.args.parent c.members.tally member next told.judgement before from c.if-member-tally.true on is told.judges);
      falls = falls_both c.args.so_far c.members.tally c.in_ok-tally.tally c.members.invariant.falls
          (subst (Falls c.members.tally) (sym told.same) (falls_with c.members.tally member told.judgement c.if-member-tally.true));
    }

pub returns-else-member-tally-clause-tallied : goal.returns-else-member-tally-clause-tallied
returns-else-member-tally-clause-tallied g c =
    let T = tree_by g.K.M.Ordered.monoid_of g.K.M.DMonoid.difference g.K.M.Written.word_of g.K.Kind.monoid g.K.Kind.entered c.args.kind.now c.args.tree.now in
    members_done T c.args.parent c.members.tally c.members.member (inr c.if-member-tally.false) c.members.invariant.tallied

pub returns-after-members-clause-tallied : goal.returns-after-members-clause-tallied
returns-after-members-clause-tallied g c =
    let T = tree_by g.K.M.Ordered.monoid_of g.K.M.DMonoid.difference g.K.M.Written.word_of g.K.Kind.monoid g.K.Kind.entered c.args.kind.now c.args.tree.now in
    members_done T c.args.parent c.members.tally c.members.member (inl c.members-test.false) c.members.invariant.tallied
