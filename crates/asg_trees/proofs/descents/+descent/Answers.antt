use Rattle.asg_trees.proofs.Common.{◌≡◌, ◌+◌, ◌-◌, ◌*◌, ◌<◌, ◌≤◌, true, length, sym, ◌∙◌, subst, inl, inr, arith, rules, false≢true, node_at, is_answered, LeadsOn, IsNextWith, parent_keys, IsJudged, IsAt, StandsAt, IsSound, tree_by}
use Rattle.asg_trees.proofs.DescentLemmas.{below_none, but_fallen, but_last, but_more, but_none, each_first, each_last, each_more, lead_later, tallied_fallen}
use Rattle.asg_trees.proofs.GroupLemmas.{parent_count}
use Rattle.asg_trees.proofs.SiblingLemmas.{below_root, member_falls, next_named, next_of_member, next_within}
use Rattle.asg_trees.proofs.TallyLemmas.{falls_both, falls_none, fair_of}
use Rattle.asg_trees.proofs.descents.+descent.Goals as goal

pub judge_branch-returns-then-child-heir : goal.judge_branch-returns-then-child-heir
judge_branch-returns-then-child-heir g t c =
    record {
      kept = c.requires.at.kept;
      fair = c.requires.fair;
      falls = falls_none c.args.so_far;
      settled = λ other. absurd (other c.if-child-heir.true);
    }

pub judge_branch-returns-then-not-has_answer : goal.judge_branch-returns-then-not-has_answer
judge_branch-returns-then-not-has_answer g t c =
    let T = tree_by g.K.M.Ordered.monoid_of g.K.M.DMonoid.difference g.K.M.Written.word_of g.K.Kind.monoid g.K.Kind.entered c.args.kind.now c.args.tree.now in
    record {
      kept = c.requires.at.kept;
      fair = c.requires.fair;
      falls = falls_none c.args.so_far;
      settled = λ other. below_none T c.args.child c.args.so_far c.requires.fair.places (sym c.has_answer.ensures ∙ c.if-not-has_answer.true);
    }

pub judge_branch-go_down-requires-clause-places : goal.judge_branch-go_down-requires-clause-places
judge_branch-go_down-requires-clause-places g t c =
    λ n from upto. c.requires.fair.places n from (omega (arith, upto, c.requires.before))

pub judge_branch-go_down-requires-clause-at : goal.judge_branch-go_down-requires-clause-at
judge_branch-go_down-requires-clause-at g t c =
    let T = tree_by g.K.M.Ordered.monoid_of g.K.M.DMonoid.difference g.K.M.Written.word_of g.K.Kind.monoid g.K.Kind.entered c.args.kind.now c.args.tree.now in
    record {
      sound = c.requires.at.sound;
      stands = subst (λ Q. StandsAt T (node_at c.args.tree.now.nodes.now c.args.child).parent Q c.args.reduced.now.index) (sym c.in_ok-now.ensures) c.requires.at.stands;
      kept = c.requires.at.kept;
    }

pub judge_branch-judge_below-requires : goal.judge_branch-judge_below-requires
judge_branch-judge_below-requires g t c =
    let nodes = c.args.tree.now.nodes.now in
    let from : 1 ≤ c.args.child = omega (arith, c.requires.from) in
    let answered : is_answered (node_at nodes c.args.child).mark ≡ true = sym c.has_answer.ensures ∙ c.if-not-has_answer.false in
    let smaller : 3 * (length nodes + 1 - c.args.child) + 1 < 3 * (length nodes + 1 - c.args.child) + 2 = omega arith in
    search rules

pub judge_branch-returns-clause-settled : goal.judge_branch-returns-clause-settled
judge_branch-returns-clause-settled g t c =
    λ other. c.judge_below.ensures.settled

pub judge_branches-first_of-member-requires : goal.judge_branches-first_of-member-requires
judge_branches-first_of-member-requires g t c =
    omega (arith, c.requires.ready.members.first_count, c.requires.upto)

pub judge_branches-members-init : goal.judge_branches-members-init
judge_branches-members-init g t c =
    let T = tree_by g.K.M.Ordered.monoid_of g.K.M.DMonoid.difference g.K.M.Written.word_of g.K.Kind.monoid g.K.Kind.entered c.args.kind.now c.args.tree.now in
    let nodes = c.args.tree.now.nodes.now in
    let next = c.first_of-member.result in
    let is = subst (IsNextWith (parent_keys nodes) c.args.parent 0) (sym c.first_of-member.ensures) (c.requires.ready.members.firsts c.args.parent c.requires.upto) in
    record {
      upto = next_within nodes c.args.parent 0 next is;
      named = λ some. next_named nodes c.args.parent c.args.tree.now.members.now c.requires.ready.members 0 next is some;
      others = c.requires.at.kept;
      fair = fair_of T (IsJudged nodes c.args.parent (length nodes + 1)) c.args.so_far c.requires.children;
      falls = falls_none c.args.so_far;
      settled = each_first T c.args.parent c.args.heir c.args.so_far next is;
    }

pub judge_branches-judge_branch-requires : goal.judge_branches-judge_branch-requires
judge_branches-judge_branch-requires g t c =
    let T = tree_by g.K.M.Ordered.monoid_of g.K.M.DMonoid.difference g.K.M.Written.word_of g.K.Kind.monoid g.K.Kind.entered c.args.kind.now c.args.tree.now in
    let nodes = c.args.tree.now.nodes.now in
    let member = c.members.member in
    let some = c.members-test.true in
    let inv = c.members.invariant in
    let on = inv.named some in
    let place = inv.fair.places member (omega (arith, some)) c.if-member-tally.true in
    let more : 1 < member = below_root nodes member some place on c.requires.from in
    let sound : IsSound T member = c.requires.children.sound member (omega (arith, some)) (omega (arith, c.if-member-tally.true, inv.falls.fault)) (on, omega (arith, inv.upto)) in
    let at : IsAt T (node_at nodes member).parent c.args.reduced.now c.members.kept =
    subst (λ n. IsAt T n c.args.reduced.now c.members.kept) (sym on) (record { sound = c.requires.at.sound; stands = c.requires.at.stands; kept = inv.others }) in
    let smaller : 3 * (length nodes + 1 - member) + 2 < 3 * (length nodes + 1 - c.args.parent) = omega (arith, (place.below more).before, on, inv.upto) in
    search rules

pub judge_branches-next_of-member-requires : goal.judge_branches-next_of-member-requires
judge_branches-next_of-member-requires g t c =
    omega (arith, c.requires.ready.members.next_count, parent_count c.args.tree.now.nodes.now, c.members.invariant.upto)

pub judge_branches-members-smaller : goal.judge_branches-members-smaller
judge_branches-members-smaller g t c =
    let nodes = c.args.tree.now.nodes.now in
    let some = c.members-test.true in
    let member = c.members.member in
    let next = c.next_of-member.result in
    let is = next_of_member nodes c.args.parent c.args.tree.now.members.now c.requires.ready.members member next (omega (arith, some)) c.members.invariant.upto c.requires.upto (c.members.invariant.named some) c.next_of-member.ensures in
    member_falls nodes c.args.parent c.args.tree.now.members.now c.requires.ready.members member next some c.members.invariant.upto is

pub judge_branches-members-preserved : goal.judge_branches-members-preserved
judge_branches-members-preserved g t c =
    let T = tree_by g.K.M.Ordered.monoid_of g.K.M.DMonoid.difference g.K.M.Written.word_of g.K.Kind.monoid g.K.Kind.entered c.args.kind.now c.args.tree.now in
    let nodes = c.args.tree.now.nodes.now in
    let some = c.members-test.true in
    let member = c.members.member in
    let next = c.next_of-member.result in
    let is = next_of_member nodes c.args.parent c.args.tree.now.members.now c.requires.ready.members member next (omega (arith, some)) c.members.invariant.upto c.requires.upto (c.members.invariant.named some) c.next_of-member.ensures in
    let after = c.in_ok-tally.tally in
    record {
      upto = next_within nodes c.args.parent member next is;
      named = λ more. next_named nodes c.args.parent c.args.tree.now.members.now c.requires.ready.members member next is more;
      others = c.in_ok-tally.ensures.kept;
      fair = c.in_ok-tally.ensures.fair;
      falls = falls_both c.args.so_far c.members.tally after c.members.invariant.falls c.in_ok-tally.ensures.falls;
      settled = each_more T c.args.parent c.args.heir c.members.tally after member next some is c.in_ok-tally.ensures.falls c.members.invariant.settled c.in_ok-tally.ensures.settled;
    }

pub judge_branches-returns-else-member-tally-clause-settled : goal.judge_branches-returns-else-member-tally-clause-settled
judge_branches-returns-else-member-tally-clause-settled g t c =
    let T = tree_by g.K.M.Ordered.monoid_of g.K.M.DMonoid.difference g.K.M.Written.word_of g.K.Kind.monoid g.K.Kind.entered c.args.kind.now c.args.tree.now in
    each_last T c.args.parent c.args.heir c.members.tally c.members.member c.members.invariant.fair (inr c.if-member-tally.false) c.members.invariant.settled

pub judge_branches-returns-after-members-clause-settled : goal.judge_branches-returns-after-members-clause-settled
judge_branches-returns-after-members-clause-settled g t c =
    let T = tree_by g.K.M.Ordered.monoid_of g.K.M.DMonoid.difference g.K.M.Written.word_of g.K.Kind.monoid g.K.Kind.entered c.args.kind.now c.args.tree.now in
    each_last T c.args.parent c.args.heir c.members.tally c.members.member c.members.invariant.fair (inl c.members-test.false) c.members.invariant.settled

pub judge_below-down-init : goal.judge_below-down-init
judge_below-down-init g t c =
    let T = tree_by g.K.M.Ordered.monoid_of g.K.M.DMonoid.difference g.K.M.Written.word_of g.K.Kind.monoid g.K.Kind.entered c.args.kind.now c.args.tree.now in
    record {
      from = omega arith;
      upto = c.requires.upto;
      answered = c.requires.answered;
      here = c.requires.at;
      fair = c.requires.fair;
      falls = falls_none c.args.so_far;
      settled = but_none T c.args.node c.args.so_far;
    }

pub judge_below-judge_children-requires-clause-from : goal.judge_below-judge_children-requires-clause-from
judge_below-judge_children-requires-clause-from g t c =
    omega (arith, c.requires.from, c.down.invariant.from)

pub judge_below-judge_branches-requires : goal.judge_below-judge_branches-requires
judge_below-judge_branches-requires g t c =
    let T = tree_by g.K.M.Ordered.monoid_of g.K.M.DMonoid.difference g.K.M.Written.word_of g.K.Kind.monoid g.K.Kind.entered c.args.kind.now c.args.tree.now in
    let nodes = c.args.tree.now.nodes.now in
    let inv = c.down.invariant in
    let from : 1 ≤ c.down.at = omega (arith, c.requires.from, inv.from) in
    let at : IsAt T c.down.at c.down.reduced c.judge_children.new.kept = record { sound = inv.here.sound; stands = inv.here.stands; kept = c.in_ok-children.ensures.kept } in
    let smaller : 3 * (length nodes + 1 - c.down.at) < 3 * (length nodes + 1 - c.args.node) + 1 = omega (arith, inv.from) in
    search rules

pub judge_below-leads_on-requires : goal.judge_below-leads_on-requires
judge_below-leads_on-requires g t c =
    c.in_ok-tally.ensures.fair.upto

pub judge_below-go_down-requires : goal.judge_below-go_down-requires
judge_below-go_down-requires g t c =
    let T = tree_by g.K.M.Ordered.monoid_of g.K.M.DMonoid.difference g.K.M.Written.word_of g.K.Kind.monoid g.K.Kind.entered c.args.kind.now c.args.tree.now in
    let at = c.down.at in
    let heir = c.child_of-heir.result in
    let after = c.in_ok-tally.tally in
    let fair = c.in_ok-tally.ensures.fair in
    let lead = c.leads_on.ensures.0 c.if-not-leads_on.false in
    let later = lead_later T at heir after fair lead (omega (arith, c.requires.from, c.down.invariant.from)) in
    record {
      ready = c.requires.ready;
      from = later.0;
      upto = later.2;
      places = λ n from upto. fair.places n from (omega (arith, upto, lead.before));
      sound = c.in_ok-children.ensures.tallied.sound heir lead.from (omega (arith, lead.before, c.in_ok-tally.ensures.falls.fault)) (lead.parent, omega (arith, later.2));
      answered = lead.answered;
      at = subst (λ n. IsAt T n c.down.reduced c.judge_branches.new.kept) (sym lead.parent)
          (record { sound = c.down.invariant.here.sound; stands = c.down.invariant.here.stands; kept = c.in_ok-tally.ensures.kept });
    }

pub judge_below-down-smaller : goal.judge_below-down-smaller
judge_below-down-smaller g t c =
    let T = tree_by g.K.M.Ordered.monoid_of g.K.M.DMonoid.difference g.K.M.Written.word_of g.K.Kind.monoid g.K.Kind.entered c.args.kind.now c.args.tree.now in
    let at = c.down.at in
    let heir = c.child_of-heir.result in
    let after = c.in_ok-tally.tally in
    let fair = c.in_ok-tally.ensures.fair in
    let lead = c.leads_on.ensures.0 c.if-not-leads_on.false in
    let later = lead_later T at heir after fair lead (omega (arith, c.requires.from, c.down.invariant.from)) in
    omega (arith, later.1, later.2)

pub judge_below-down-preserved : goal.judge_below-down-preserved
judge_below-down-preserved g t c =
    let T = tree_by g.K.M.Ordered.monoid_of g.K.M.DMonoid.difference g.K.M.Written.word_of g.K.Kind.monoid g.K.Kind.entered c.args.kind.now c.args.tree.now in
    let at = c.down.at in
    let heir = c.child_of-heir.result in
    let after = c.in_ok-tally.tally in
    let fair = c.in_ok-tally.ensures.fair in
    let lead = c.leads_on.ensures.0 c.if-not-leads_on.false in
    let later = lead_later T at heir after fair lead (omega (arith, c.requires.from, c.down.invariant.from)) in
    let children = c.in_ok-children.children in
    let tallied = tallied_fallen T (IsJudged c.args.tree.now.nodes.now at (length c.args.tree.now.nodes.now + 1)) children after c.in_ok-children.ensures.tallied fair c.in_ok-tally.ensures.falls in
    let fallen = falls_both c.down.tally children after c.in_ok-children.ensures.falls c.in_ok-tally.ensures.falls in
    let but = but_fallen T c.down.tally after fallen c.args.node at c.down.invariant.settled in
    record {
      from = omega (arith, later.1, c.down.invariant.from);
      upto = later.2;
      answered = lead.answered;
      here = c.in_ok-go_down.ensures;
      fair = fair;
      falls = falls_both c.args.so_far c.down.tally after c.down.invariant.falls fallen;
      settled = but_more T c.args.node at heir after tallied c.in_ok-tally.ensures.settled but;
    }

pub judge_below-returns-then-not-leads_on : goal.judge_below-returns-then-not-leads_on
judge_below-returns-then-not-leads_on g t c =
    let T = tree_by g.K.M.Ordered.monoid_of g.K.M.DMonoid.difference g.K.M.Written.word_of g.K.Kind.monoid g.K.Kind.entered c.args.kind.now c.args.tree.now in
    let at = c.down.at in
    let heir = c.child_of-heir.result in
    let after = c.in_ok-tally.tally in
    let fair = c.in_ok-tally.ensures.fair in
    let children = c.in_ok-children.children in
    let tallied = tallied_fallen T (IsJudged c.args.tree.now.nodes.now at (length c.args.tree.now.nodes.now + 1)) children after c.in_ok-children.ensures.tallied fair c.in_ok-tally.ensures.falls in
    let fallen = falls_both c.down.tally children after c.in_ok-children.ensures.falls c.in_ok-tally.ensures.falls in
    let but = but_fallen T c.down.tally after fallen c.args.node at c.down.invariant.settled in
    record {
      kept = c.in_ok-tally.ensures.kept;
      fair = fair;
      falls = falls_both c.args.so_far c.down.tally after c.down.invariant.falls fallen;
      settled = but_last T c.args.node at heir after tallied c.in_ok-tally.ensures.settled but
          (λ (lead : LeadsOn c.args.tree.now.nodes.now at heir after.fault). false≢true (sym c.if-not-leads_on.true ∙ c.leads_on.ensures.1 lead));
    }
