use Rattle.asg_admit.proofs.Common.{◌+◌, cond, eqb, slice_index, sym, refl, ap, ◌∙◌, arith, has_mark, count_below-more}
use Rattle.asg_admit.proofs.CountLemmas.{count_few}
use Rattle.asg_admit.proofs.counting.count_marks.Goals as goal

pub loop-k-init : goal.loop-k-init
loop-k-init c = record { size = refl; counts = λ i h. c.requires.clear i h }

pub count_mark-requires : goal.count_mark-requires
count_mark-requires c = λ i h.
    let l = c.loop-k in
    let p = has_mark c.args.marks.now (c.args.first + i) in
    let few = count_few p l.k in
    omega (arith, l.invariant.counts i (omega (arith, h, l.invariant.size)), few, c.loop-k-test.true, c.requires.few)

pub loop-k-preserved : goal.loop-k-preserved
loop-k-preserved c =
    let l = c.loop-k in
    record {
      size = c.count_mark.ensures.size ∙ l.invariant.size;
      counts = λ i h.
          let p = has_mark c.args.marks.now (c.args.first + i) in
          c.count_mark.ensures.counts i (omega (arith, h, l.invariant.size))
          ∙ ap (λ n. n + cond (eqb (slice_index c.args.marks.now l.k) (c.args.first + i)) 1 0) (l.invariant.counts i h)
          ∙ sym (count_below-more p l.k);
    }
