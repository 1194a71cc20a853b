use Rattle.asg_trees.proofs.Common.{◌≡◌, ◌-◌, ◌≤◌, length, sym, ◌∙◌, subst, arith, length-map, answer_number, Node, AreGroupsAbove, answer_keys, key_at, linked_first, linked_next}
use Rattle.asg_trees.proofs.GroupLemmas.{answer_key, linked}
use Rattle.asg_trees.proofs.groups.by_answer.Goals as goal

pub numbers-preserved : goal.numbers-preserved
numbers-preserved c =
    let nodes = c.args.nodes.now in
    let keys = answer_keys nodes in
    let count = c.args.answers in
    let n = c.numbers.above in
    let b = n - 1 in
    let first = c.numbers.first.items in
    let next = c.numbers.next.items in
    let key = c.answer_number-key.result in
    let upto = c.numbers.invariant.upto in
    let all : length keys ≡ length nodes = length-map nodes (λ (node : Node). answer_number node.mark) in
    let from : 1 ≤ n = omega (arith, c.numbers-test.true) in
    let same : key_at keys n ≡ key = answer_key nodes n from upto ∙ sym c.answer_number-key.ensures in
    let more = subst (λ k. AreGroupsAbove keys count b (linked_first first k n) (linked_next first next k n)) same
    (linked keys count n b (omega (arith, from)) (omega (arith, upto, all)) first next c.numbers.invariant.groups) in
    record {
      upto = omega (arith, upto);
      groups = subst (λ firsts. AreGroupsAbove keys count b firsts c.link.new.next.items) (sym c.link.ensures.firsts)
          (subst (AreGroupsAbove keys count b (linked_first first key n)) (sym c.link.ensures.nexts) more);
    }
