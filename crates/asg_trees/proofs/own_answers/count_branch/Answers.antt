use Rattle.asg_trees.proofs.Common.{◌≡◌, ℕ, ◌+◌, ◌-◌, ◌≤◌, Bool, true, false, cond, ◌&&◌, eqb, ◌≢◌, length, take, count_by, sym, ap, ◌∙◌, subst, ⊎_elim, arith, cases_eq, node_at, IsNextWith, parent_keys}
use Rattle.asg_trees.proofs.SiblingLemmas.{before_none, before_some, count_first, count_next, next_named, next_of_member, next_within}
use Rattle.asg_trees.proofs.own_answers.count_branch.Goals as goal

one_most : (b : Bool) (n : ℕ) → n ≡ cond b 1 0 → n ≤ 1
one_most true n e = omega (arith, e)
one_most false n e = omega (arith, e)

pub members-init : goal.members-init
members-init c =
    let nodes = c.args.nodes.now in
    let next = c.first_of-member.result in
    let is = subst (IsNextWith (parent_keys nodes) c.args.n 0) (sym c.first_of-member.ensures) (c.requires.members.firsts c.args.n c.requires.upto) in
    record {
      upto = next_within nodes c.args.n 0 next is;
      named = λ some. next_named nodes c.args.n c.args.members.now c.requires.members 0 next is some;
      few = ⊎_elim (λ (zero : next ≡ 0). omega (arith, before_none (length nodes) next zero)) (λ (some : next ≢ 0). omega (arith, before_some (length nodes) next some, some)) (cases_eq next 0);
      counted = count_first nodes c.args.n c.args.branch next is;
    }

pub members-preserved : goal.members-preserved
members-preserved c =
    let nodes = c.args.nodes.now in
    let member = c.members.member in
    let next = c.next_of-member.result in
    let some : member ≢ 0 = c.members-test.true in
    let from : 1 ≤ member = omega (arith, some) in
    let on = c.members.invariant.named some in
    let is = next_of_member nodes c.args.n c.args.members.now c.requires.members member next from c.members.invariant.upto c.requires.upto on c.next_of-member.ensures in
    let one = one_most (eqb (node_at nodes member).branch c.args.branch) c.one_of-count.result c.one_of-count.ensures in
    let high = before_some (length nodes) member some in
    record {
      upto = next_within nodes c.args.n member next is;
      named = λ more. next_named nodes c.args.n c.args.members.now c.requires.members member next is more;
      few =
          ⊎_elim
          (λ (zero : next ≡ 0). omega (arith, before_none (length nodes) next zero, high, c.members.invariant.few, c.members.invariant.upto, one))
          (λ (more : next ≢ 0). omega (arith, before_some (length nodes) next more, is.later more, high, c.members.invariant.few, one))
          (cases_eq next 0);
      counted =
          ap (λ k. c.members.count + k) c.one_of-count.ensures
          ∙ count_next nodes c.args.n c.args.branch member next c.members.count from c.members.invariant.upto on is
          (c.members.invariant.counted ∙ ap (λ k. count_by (λ node. eqb node.parent c.args.n && eqb node.branch c.args.branch) (take (k - 1) nodes)) high);
    }
