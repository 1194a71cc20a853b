use Rattle.asg_phase_totals.proofs.Common.{◌<◌, ◌≤◌, ◌≢◌, ◌∙◌, ⊎_elim, arith, length-set, cases_lt, written_is, kept_is}
use Rattle.asg_phase_totals.proofs.phase_totals.clear.Goals as goal

pub loop-i-preserved : goal.loop-i-preserved
loop-i-preserved g c =
    let N = g.N.SumNumber in
    let law = g.met.N.SumNumber.numbers_law in
    let l = c.loop-i in
    let xs = l.numbers.items in
    record {
      count = length-set xs l.i c.zero.result ∙ l.invariant.count;
      each = λ j h.
          ⊎_elim
          (λ (early : j < l.i).
          let other : j ≢ l.i = omega (arith, early) in
          kept_is law xs l.i j c.zero.result other ∙ l.invariant.each j early)
          (λ (last : l.i ≤ j).
          written_is law xs l.i j c.zero.result (omega (arith, c.loop-i-test.true, l.invariant.count)) (omega (arith, last, h)) ∙ c.zero.ensures)
          (cases_lt j l.i);
    }
