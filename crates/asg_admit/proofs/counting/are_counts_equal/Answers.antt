use Rattle.asg_admit.proofs.Common.{◌≡◌, ℕ, ◌+◌, ◌<◌, length, sym, ◌∙◌, arith, below_more, has_mark, never, count_below}
use Rattle.asg_admit.proofs.counting.are_counts_equal.Goals as goal

pub loop-i-preserved : goal.loop-i-preserved
loop-i-preserved c =
    let enters = c.args.enters.now in
    let leaves = c.args.leaves.now in
    let l = c.loop-i in
    let rows : l.i < length c.args.entering.now = omega (arith, c.loop-i-test.true, c.requires.entering) in
    let columns : l.i < length c.args.leaving.now = omega (arith, c.loop-i-test.true, c.requires.leaving) in
    below_more (λ (i : ℕ). count_below (has_mark enters (c.args.first + i)) (length enters) ≡ count_below (has_mark leaves (c.args.first + i)) (length leaves)) _
    l.invariant
    (sym (c.count_marks.ensures.counts l.i rows) ∙ c.if-entering-i.false ∙ c.count_marks-2.ensures.counts l.i columns)

pub returns-then-entering-i : goal.returns-then-entering-i
returns-then-entering-i c =
    let l = c.loop-i in
    let rows : l.i < length c.args.entering.now = omega (arith, c.loop-i-test.true, c.requires.entering) in
    let columns : l.i < length c.args.leaving.now = omega (arith, c.loop-i-test.true, c.requires.leaving) in
    never (λ all. c.if-entering-i.true (c.count_marks.ensures.counts l.i rows ∙ all l.i c.loop-i-test.true ∙ sym (c.count_marks-2.ensures.counts l.i columns)))
