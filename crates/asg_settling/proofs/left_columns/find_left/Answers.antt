use Rattle.asg_settling.proofs.Common.{◌≡◌, ◌+◌, ◌-◌, ◌<◌, length, set, slice_index, sym, ap, ◌∙◌, subst, ⊎_elim, arith, length-set, get_or-set_other, get_or-set_same, cases_eq, IsPassed}
use Rattle.asg_settling.proofs.LeftLemmas.{passed_none, passed_more}
use Rattle.asg_settling.proofs.left_columns.find_left.Goals as goal

pub loop-ahead-init : goal.loop-ahead-init
loop-ahead-init c =
    let leaves = c.args.leaves.now in
    let next = c.args.next.now in
    let side = length leaves in
    record {
      count = length-set next side side;
      passed = λ k low high.
          let at : k ≡ side = omega (arith, low, high) in
          passed_none leaves c.args.end k (slice_index (set next side side) k) high
          (ap (slice_index (set next side side)) at ∙ get_or-set_same next side side 0 c.requires.room ∙ sym at);
    }

pub loop-ahead-preserved : goal.loop-ahead-preserved
loop-ahead-preserved c =
    let leaves = c.args.leaves.now in
    let end = c.args.end in
    let l = c.loop-ahead in
    let column = length leaves - 1 - l.ahead in
    let below : column < length leaves = omega (arith, c.loop-ahead-test.true) in
    let v = c.first_of.result in
    let now = set l.next column v in
    let long = l.invariant.count in
    record {
      count = length-set l.next column v ∙ l.invariant.count;
      passed = λ k low high.
          ⊎_elim
          (λ (here : k ≡ column).
          subst (λ i. IsPassed leaves end i (slice_index now i)) (sym here)
          (passed_more leaves end column (slice_index now column) (slice_index l.next (column + 1)) below
          (get_or-set_same l.next column v 0 (omega (arith, below, long, c.requires.room)) ∙ c.first_of.ensures)
          (l.invariant.passed (column + 1) (omega (arith, c.loop-ahead-test.true)) (omega (arith, below)))))
          (λ apart.
          subst (IsPassed leaves end k) (sym (get_or-set_other l.next column k v 0 apart))
          (l.invariant.passed k (omega (arith, low, high, apart, c.loop-ahead-test.true)) high))
          (cases_eq k column);
    }
