use Rattle.asg_phase_totals.proofs.Common.{◌≡◌, ◌+◌, ◌<◌, ◌≤◌, ◌≢◌, length, slice_index, slice_set, sym, ap, ◌∙◌, ⊎_elim, arith, length-set, cases_lt, sum_before, written_is, kept_is, read_is, sum_more, sum_rises}
use Rattle.asg_phase_totals.proofs.dual_sums.sum_up.Goals as goal

pub loop-t-init : goal.loop-t-init
loop-t-init g c =
    let N = g.N.SumNumber in
    let law = g.met.N.SumNumber.numbers_law in
    let sums = c.args.sums.now in
    record {
      room = length-set sums 0 c.zero.result;
      sums = λ i h.
          let e : i ≡ 0 = omega (arith, h) in
          written_is law sums 0 i c.zero.result (omega (arith, c.requires.room)) e ∙ c.zero.ensures ∙ ap (sum_before (N.numbers c.args.steps.now)) (sym e);
    }

pub plus-requires : goal.plus-requires
plus-requires g c =
    let N = g.N.SumNumber in
    let law = g.met.N.SumNumber.numbers_law in
    let l = c.loop-t in
    let steps = c.args.steps.now in
    let below = c.loop-t-test.true in
    let sum = read_is law l.sums l.t c.index-sums-t.result (omega (arith, below, l.invariant.room, c.requires.room)) c.index-sums-t.is in
    let step = read_is law steps l.t c.index-steps-t.result below c.index-steps-t.is in
    let here = l.invariant.sums l.t (omega arith) in
    let more = sum_more law steps l.t below in
    let rises = sum_rises law steps (l.t + 1) (length steps) (omega (arith, below)) (omega arith) in
    omega (arith, sum, step, here, more, rises, c.requires.fits)

pub loop-t-preserved : goal.loop-t-preserved
loop-t-preserved g c =
    let N = g.N.SumNumber in
    let law = g.met.N.SumNumber.numbers_law in
    let l = c.loop-t in
    let steps = c.args.steps.now in
    let below = c.loop-t-test.true in
    let sum = read_is law l.sums l.t c.index-sums-t.result (omega (arith, below, l.invariant.room, c.requires.room)) c.index-sums-t.is in
    let step = read_is law steps l.t c.index-steps-t.result below c.index-steps-t.is in
    let here = l.invariant.sums l.t (omega arith) in
    let more = sum_more law steps l.t below in
    record {
      room = length-set l.sums (l.t + 1) c.plus.result ∙ l.invariant.room;
      sums = λ i h.
          ⊎_elim
          (λ (early : i < l.t + 1).
          let other : i ≢ l.t + 1 = omega (arith, early) in
          kept_is law l.sums (l.t + 1) i c.plus.result other ∙ l.invariant.sums i (omega (arith, early)))
          (λ (last : l.t + 1 ≤ i).
          let e : i ≡ l.t + 1 = omega (arith, last, h) in
          let now = written_is law l.sums (l.t + 1) i c.plus.result (omega (arith, below, l.invariant.room, c.requires.room)) e in
          let is : slice_index (N.numbers (slice_set l.sums (l.t + 1) c.plus.result)) i ≡ sum_before (N.numbers steps) (l.t + 1) = omega (arith, now, c.plus.ensures, sum, step, here, more) in
          is ∙ ap (sum_before (N.numbers steps)) (sym e))
          (cases_lt i (l.t + 1));
    }
