use Rattle.asg_phase_totals.proofs.Common.{◌≡◌, ◌+◌, ◌<◌, ◌≤◌, ◌≢◌, length, slice_index, slice_set, sym, refl, ap, ◌∙◌, subst, ⊎_elim, arith, length-set, cases_lt, count_is, written_is, kept_is, read_is}
use Rattle.asg_phase_totals.proofs.segments.lower_by.Goals as goal

pub minus-requires : goal.minus-requires
minus-requires g c =
    let N = g.N.SumNumber in
    let law = g.met.N.SumNumber.numbers_law in
    let l = c.loop-i in
    let xs = l.numbers.items in
    let inside : l.i < length xs = omega (arith, c.loop-i-test.true, l.invariant.count) in
    let at = read_is law xs l.i c.index.result.now inside c.index.ensures in
    let part = read_is law c.args.part.now l.i c.index-part-i.result (omega (arith, inside, l.invariant.count, c.requires.count)) c.index-part-i.is in
    let rest = l.invariant.rest l.i (omega arith) in
    let less = c.requires.part l.i (omega (arith, inside, l.invariant.count)) in
    omega (arith, at, part, rest, less)

pub loop-i-preserved : goal.loop-i-preserved
loop-i-preserved g c =
    let N = g.N.SumNumber in
    let law = g.met.N.SumNumber.numbers_law in
    let l = c.loop-i in
    let xs = l.numbers.items in
    let inside : l.i < length xs = omega (arith, c.loop-i-test.true, l.invariant.count) in
    let at = read_is law xs l.i c.index.result.now inside c.index.ensures in
    let part = read_is law c.args.part.now l.i c.index-part-i.result (omega (arith, inside, l.invariant.count, c.requires.count)) c.index-part-i.is in
    let rest = l.invariant.rest l.i (omega arith) in
    let less = c.requires.part l.i (omega (arith, inside, l.invariant.count)) in
    let now = written_is law xs l.i l.i c.minus.result inside refl in
    let after = N.numbers (slice_set xs l.i c.minus.result) in
    let before = N.numbers c.args.numbers.now.items in
    let here : slice_index after l.i + slice_index (N.numbers c.args.part.now) l.i ≡ slice_index before l.i = omega (arith, now, c.minus.ensures, at, part, rest, less) in
    record {
      count = length-set xs l.i c.minus.result ∙ l.invariant.count;
      done = λ j h.
          ⊎_elim
          (λ (early : j < l.i).
          let other : j ≢ l.i = omega (arith, early) in
          ap (λ x. x + slice_index (N.numbers c.args.part.now) j) (kept_is law xs l.i j c.minus.result other) ∙ l.invariant.done j early)
          (λ (last : l.i ≤ j).
          let e : j ≡ l.i = omega (arith, last, h) in
          subst (λ k. slice_index after k + slice_index (N.numbers c.args.part.now) k ≡ slice_index before k) (sym e) here)
          (cases_lt j l.i);
      rest = λ j h.
          let other : j ≢ l.i = omega (arith, h) in
          kept_is law xs l.i j c.minus.result other ∙ l.invariant.rest j (omega (arith, h));
    }

pub returns : goal.returns
returns g c =
    let N = g.N.SumNumber in
    let law = g.met.N.SumNumber.numbers_law in
    let l = c.loop-i in
    record {
      count = count_is law l.numbers.items ∙ l.invariant.count ∙ sym (count_is law c.args.numbers.now.items);
      each = λ j h. l.invariant.done j (omega (arith, h, c.loop-i-test.false, count_is law c.args.numbers.now.items));
    }
