use Rattle.asg_phase_totals.proofs.Common.{◌≡◌, ◌+◌, ◌<◌, ◌≤◌, min, ◌≢◌, length, slice_index, slice_set, sym, refl, ap, ◌∙◌, subst, ⊎_elim, arith, length-set, cases_lt, sum_before, count_is, written_is, kept_is, read_is}
use Rattle.asg_phase_totals.proofs.dual_sums.lower.Goals as goal

pub loop-i-preserved : goal.loop-i-preserved
loop-i-preserved g c =
    let N = g.N.SumNumber in
    let law = g.met.N.SumNumber.numbers_law in
    let l = c.loop-i in
    let steps = c.args.steps.now in
    let inside : l.i < length l.duals.items = omega (arith, c.loop-i-test.true, l.invariant.count) in
    let at = read_is law l.duals.items l.i c.index.result.now inside c.index.ensures in
    let rest = l.invariant.rest l.i (omega arith) in
    let same : c.cut.result ≡ min (slice_index c.args.marks.now l.i) (length steps) = omega (arith, c.cut.ensures, c.len-i-end.ensures) in
    let within : c.cut.result ≤ length steps = omega (arith, same) in
    let sum = read_is law c.args.sums.now c.cut.result c.index-sums-cut.result (omega (arith, within, c.requires.room)) c.index-sums-cut.is in
    let is_sum = c.requires.sums c.cut.result (omega (arith, within, count_is law steps)) in
    let so = ap (sum_before (N.numbers steps)) same in
    let now = written_is law l.duals.items l.i l.i c.minus.result inside refl in
    let here : slice_index (N.numbers c.args.duals.now.items) l.i ≡ slice_index (N.numbers (slice_set l.duals.items l.i c.minus.result)) l.i + sum_before (N.numbers steps) (min (slice_index c.args.marks.now l.i) (length steps)) = let raised = c.requires.raised l.i (omega (arith, inside, l.invariant.count)) in omega (arith, now, c.minus.ensures, at, rest, sum, is_sum, so, raised) in
    record {
      count = length-set l.duals.items l.i c.minus.result ∙ l.invariant.count;
      done = λ j h.
          ⊎_elim
          (λ (before : j < l.i).
          let other : j ≢ l.i = omega (arith, before) in
          l.invariant.done j before ∙ ap (λ x. x + sum_before (N.numbers steps) (min (slice_index c.args.marks.now j) (length steps))) (sym (kept_is law l.duals.items l.i j c.minus.result other)))
          (λ (last : l.i ≤ j).
          let e : j ≡ l.i = omega (arith, last, h) in
          subst (λ k. slice_index (N.numbers c.args.duals.now.items) k ≡ slice_index (N.numbers (slice_set l.duals.items l.i c.minus.result)) k + sum_before (N.numbers steps) (min (slice_index c.args.marks.now k) (length steps))) (sym e) here)
          (cases_lt j l.i);
      rest = λ j h.
          let other : j ≢ l.i = omega (arith, h) in
          kept_is law l.duals.items l.i j c.minus.result other ∙ l.invariant.rest j (omega (arith, h));
    }
